-- Frames that pass, one after another.
use Rattle.std.proofs.Common.{◌≡◌, ◌∙◌, ◌+◌, ◌∷◌, ◌++◌, [], ◌⊎◌, inl, inr, List, ℕ, length, refl, sym, ap, subst}
use Rattle.std.proofs.Common.{append_assoc, append-nil, length-append}
use Rattle.net_examples.specs.Frames.{Each, Stops, ForwardsUpTo, ForwardsAndLoses}

-- one frame more
pub each_more : {D : Type 0} (step : D → List ℕ → D → Type 0) (x y z : D) (frames : List (List ℕ)) (frame : List ℕ) →
    Each step x frames y →
    step y frame z → Each step x (frames ++ (frame ∷ [])) z
each_more step x y z [] frame is one = (z, subst (λ o. step o frame z) is one, refl)
each_more step x y z (f ∷ frames) frame each one = (each.0, each.1, each_more step each.0 y z frames frame each.2 one)

module _ {D : Type 0} (step : D → List ℕ → D → Type 0) (view : D → List (List ℕ)) where
  -- a step takes the first element off the list that is seen
  abbrev pub TakesFirst : Type 0
  TakesFirst = (x : D) (f : List ℕ) (y : D) → step x f y → view x ≡ f ∷ view y

  -- a step appends the element to the list that contracts see
  abbrev pub PutsLast : Type 0
  PutsLast = (x : D) (f : List ℕ) (y : D) → step x f y → view y ≡ view x ++ (f ∷ [])

  pub taken_list : TakesFirst → (x y : D) (fs : List (List ℕ)) → Each step x fs y → view x ≡ fs ++ view y
  taken_list law x y [] e = ap view (sym e)
  taken_list law x y (f ∷ fs) e = law x f e.0 e.1 ∙ ap (λ (r : List (List ℕ)). f ∷ r) (taken_list law e.0 y fs e.2)

  pub sent_list : PutsLast → (x y : D) (fs : List (List ℕ)) → Each step x fs y → view y ≡ view x ++ fs
  sent_list law x y [] e = ap view e ∙ simp append-nil refl
  sent_list law x y (f ∷ fs) e = sent_list law e.0 y fs e.2 ∙ ap (λ (r : List (List ℕ)). r ++ fs) (law x f e.0 e.1)
      ∙ append_assoc (view x) (f ∷ []) fs

module _ {A B : Type 0} (taken : A → List ℕ → A → Type 0) (is_idle : A → Type 0) (idled : A → A →
    Type 0) (is_busy : B → Type 0)
    (sent : B → List ℕ → B → Type 0) (incoming : A → List (List ℕ)) (outgoing : B → List (List ℕ)) where
  -- a device that hands over no frame keeps the list that is seen
  abbrev pub KeepsAll : Type 0
  KeepsAll = (x y : A) → idled x y → incoming y ≡ incoming x

  ended_same : KeepsAll → (max n : ℕ) (x x' : A) (y : B) → ((n ≡ max) × (x' ≡ x))
      ⊎ Stops taken is_idle idled is_busy sent x x' y → incoming x ≡ incoming x'
  ended_same keeps max n x x' y (inl e) = ap incoming (sym e.1)
  ended_same keeps max n x x' y (inr (inl e)) = ap incoming (sym e.1)
  ended_same keeps max n x x' y (inr (inr e)) = sym (keeps x x' e.1)

  -- the frames that passed were the first
  were_first : TakesFirst taken incoming → KeepsAll →
      (max n : ℕ) (x x' : A) (y y' : B) (p : ForwardsUpTo taken is_idle idled is_busy sent max n x x' y y') →
      incoming x ≡ p.passed.frames ++ incoming x'
  were_first takes keeps max n x x' y y' p =
      taken_list taken incoming takes x p.between p.passed.frames p.passed.taken_off
      ∙ ap (λ (r : List (List ℕ)). p.passed.frames ++ r) (ended_same keeps max n p.between x' y' p.ended)

  pub passed_lists : TakesFirst taken incoming → KeepsAll → PutsLast sent outgoing → (max n : ℕ) (x x' : A) (y y' : B) →
      ForwardsUpTo taken is_idle idled is_busy sent max n x x' y y' →
      (moved : List (List ℕ)) × (incoming x ≡ moved ++ incoming x')
      × (outgoing y' ≡ outgoing y ++ moved)
  passed_lists takes keeps puts max n x x' y y' p = (
    p.passed.frames,
    were_first takes keeps max n x x' y y' p,
    sent_list sent outgoing puts y y' p.passed.frames p.passed.sent_on,
  )

  pub passed_count : TakesFirst taken incoming → KeepsAll → (max n : ℕ) (x x' : A) (y y' : B) →
      ForwardsUpTo taken is_idle idled is_busy sent max n x x' y y' →
      length (incoming x) ≡ n + length (incoming x')
  passed_count takes keeps max n x x' y y' p = ap length (were_first takes keeps max n x x' y y' p)
      ∙ length-append p.passed.frames (incoming x')
      ∙ ap (λ (k : ℕ). k + length (incoming x')) p.passed.count

module _ {A B : Type 0} (taken : A → List ℕ → A → Type 0) (sent : B → List ℕ → B → Type 0) (lacks_memory : B → ℕ →
    Type 0) (incoming : A → List (List ℕ))
    (outgoing : B → List (List ℕ)) where
  pub lost_lists : TakesFirst taken incoming → PutsLast sent outgoing → (max : ℕ) (x x' : A) (y y' : B) →
      ForwardsAndLoses taken sent lacks_memory max x x' y y' →
      (moved : List (List ℕ)) × (frame : List ℕ) × (incoming x ≡ moved ++ (frame ∷ incoming x'))
      × (outgoing y' ≡ outgoing y ++ moved)
  lost_lists takes puts max x x' y y' l = (
    l.frames,
    l.lost,
    taken_list taken incoming takes x x' (l.frames ++ (l.lost ∷ [])) l.taken_off
        ∙ append_assoc l.frames (l.lost ∷ []) (incoming x'),
    sent_list sent outgoing puts y y' l.frames l.sent_on,
  )
