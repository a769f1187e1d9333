-- Frames that pass, one after another.
--     Each step x frames y      each frame in turn makes y of x
--     Forwards n x x' y y', ForwardsAndLoses n x x' y y'      frames that were taken off and sent on
--     Stops x x' y, ForwardsUpTo max n x x' y y'      no other frame passes, and what passed before
use Rattle.std.specs.Prelude.{◌≡◌, ◌<◌, ◌⊎◌, ℕ, List, [], ◌∷◌, ◌++◌, length}

-- each of the frames in turn, by the relation step, makes y of x
abbrev pub Each : {D : Type 0} → (D → List ℕ → D → Type 0) → D → List (List ℕ) → D → Type 0
Each step x [] y = y ≡ x
Each {D} step x (frame ∷ frames) y = (next : D) × step x frame next × Each step next frames y

module _ {A B : Type 0} (taken : A → List ℕ → A → Type 0) (sent : B → List ℕ → B → Type 0) where
  -- n frames were taken off one device, and these very frames were sent in turn on the other
  pub record Forwards (n : ℕ) (x x' : A) (y y' : B) : Type 0 where
    pub frames : List (List ℕ)
    pub count : length frames ≡ n
    pub taken_off : Each taken x frames x'
    pub sent_on : Each sent y frames y'

  module _ (lacks_memory : B → ℕ → Type 0) where
    -- the same of fewer than n frames, and then one more was taken off, and is lost: the other
    -- device has no memory for it
    pub record ForwardsAndLoses (n : ℕ) (x x' : A) (y y' : B) : Type 0 where
      pub frames : List (List ℕ)
      pub lost : List ℕ
      pub count : length frames < n
      pub taken_off : Each taken x (frames ++ (lost ∷ [])) x'
      pub sent_on : Each sent y frames y'
      pub refused : lacks_memory y' (length lost)

module _ {A B : Type 0} (taken : A → List ℕ → A → Type 0) (is_idle : A → Type 0)
    (idled : A → A → Type 0) (is_busy : B → Type 0) (sent : B → List ℕ → B → Type 0) where
  -- no frame passes: the second device has no room to send, or the first has no frame to hand over
  -- and changes as it states
  abbrev pub Stops : A → A → B → Type 0
  Stops x x' y = (is_busy y × (x' ≡ x)) ⊎ (is_idle x × idled x x')

  -- n frames passed, and then either these are as many as should pass, or no other one passes
  pub record ForwardsUpTo (max n : ℕ) (x x' : A) (y y' : B) : Type 0 where
    pub between : A
    pub passed : Forwards taken sent n x between y y'
    pub ended : ((n ≡ max) × (x' ≡ between)) ⊎ Stops between x' y'
