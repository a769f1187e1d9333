-- What a run writes over bytes that come in pieces.
use Rattle.std.proofs.Common.{◌≡◌, ℕ, zero, suc, ◌+◌, ◌-◌, ◌<◌, ◌≤◌, List, [], ◌∷◌, ◌++◌, length, take, drop, true}
use Rattle.std.proofs.Common.{false, ◌==◌, Option, Some, None, Result, Ok, Err, OnOk, IfErr, IfOk, refl, sym, ◌∙◌, ap}
use Rattle.std.proofs.Common.{append_assoc, arith, length-append, nat_lt, IfSome, lt-ltb}
use Rattle.memchr.specs.Find.{IsFirstByte, is_byte}
use Rattle.std.specs.Io.KnownBytes.{Appends, Keeps, Consumes, IsAtEnd}
use Rattle.std.proofs.KnownBytes.{Appends-nil, Consumes-nil, Consumes-trans, Consumes-kept, Consumes-whole}
use Rattle.std.proofs.KnownBytes.{starts_with_rest}
use Rattle.std.proofs.lemmas.List.{append-nil, take_rest, take-append-le, length-take-le, length-drop, drop-take}
use Rattle.std.proofs.lemmas.List.Elements.{All-nil}
use Rattle.std.proofs.lemmas.List.Edits.{take-paste}
use Rattle.std.proofs.Math.Seq.{paste, take-append-add, drop-append_seam}
use Rattle.std.specs.List.{copy_within}
use borrow.Rule.Slice.PartMut.{put_mid}
use Rattle.std.proofs.lemmas.Bool.Decides.{nat_tests}
use Rattle.net_bench_lib.specs.Text.{parts_of, lines_of, ended_lines, next_number}
use Rattle.net_bench_lib.specs.Transcript.{Rules, by_step, line_step, text_of, replies_of, first_fault, Transcript}
use Rattle.net_bench_lib.specs.Transcript.{transcript, ErrorOfLines, ErrorOfInput}
use Rattle.net_bench_lib.specs.Progress.{HasNoFeed, EndsLines, Advances, RunsLines}
use Rattle.net_bench_lib.specs.declared.error.BenchError.{BenchError}
use Rattle.net_bench_lib.specs.declared.error.BenchError.TheVariants.{LineTooLong, OutOfMemory, ReadFailed, WriteFailed}
use Rattle.net_bench_lib.specs.declared.fault.Fault.TheVariants as faults
use Rattle.net_bench_lib.specs.declared.fault.Refusal.TheVariants as refusals
use Rattle.net_bench_lib.specs.declared.limits.TheConstants.{MAX_LINE}
use Rattle.net_bench_lib.specs.Writer.{AppendsPrefix}
use Rattle.net_bench_lib.proofs.KnownBytes.{Appends-two, AppendsPrefix-after, AppendsPrefix-more}
use Rattle.net_bench_lib.proofs.LineParts.{found, parts-cons, parts-feed, parts-prefix, lines-from_parts}
use Rattle.net_bench_lib.proofs.LineParts.{lines-nonempty, lines-one, ended-from_parts, ended-none, unended-from_parts}

-- what `is_empty` returns for a slice
pub nonempty : (xs : List ℕ) (r : _) → r ≡ (length xs == 0) → (r ≡ false) → 0 < length xs
nonempty xs r e h = let t : (length xs == 0) ≡ false = sym e ∙ h in grind (arith, nat_tests)

none-in-none : HasNoFeed []
none-in-none = All-nil (λ b. (b == 10) ≡ false)

-- ---- the buffer of the reads

-- the bytes of a read come after those that were held
pub front-filled : (buffer given : List ℕ) (held room count : ℕ) → held ≤ length buffer → count ≤ length given →
    take (held + count) (put_mid held room buffer given) ≡ take held buffer ++ take count given
front-filled buffer given held room count within fits =
    let front : length (take held buffer) ≡ held = omega (arith, length-take-le held buffer within) in
    ap (λ n. take (n + count) (take held buffer ++ (given ++ drop room (drop held buffer)))) (sym front)
    ∙ take-append-add (take held buffer) (given ++ drop room (drop held buffer)) count
    ∙ ap (λ t. take held buffer ++ t) (take-append-le count given (drop room (drop held buffer)) fits)

-- the beginning of the next line is moved to the front
pub front-moved : (buffer : List ℕ) (end held : ℕ) → held ≤ end → end ≤ length buffer →
    take held (copy_within buffer (end - held) end 0) ≡ drop (length (take end buffer) - held) (take end buffer)
front-moved buffer end held within fits =
    let at : ℕ = end - held in
    let size : length (take end buffer) ≡ end = omega (arith, length-take-le end buffer fits) in
    let moved : end - at ≡ held = omega (arith, within) in
    let rest : held ≤ length (drop at buffer) = omega (arith, within, fits, length-drop at buffer) in
    let whole : at + held ≡ end = omega (arith, within) in
    rw size (ap (λ n. take held (paste buffer 0 (drop at buffer) n)) moved ∙ take-all held (drop at buffer) rest
    ∙ sym (drop-take at held buffer) ∙ ap (λ n. drop at (take n buffer)) whole)
  where
    take-all : (n : ℕ) (xs : List ℕ) → n ≤ length xs → take n (paste buffer 0 xs n) ≡ take n xs
    take-all n xs h = let none : n ≡ 0 + n = omega arith in
        ap (λ m. take m (paste buffer 0 xs n)) none ∙ take-paste buffer 0 xs n (omega arith) h

module _ {S : Type 0} (rules : Rules S) where
  -- ---- lines

  Advances-none : (n : ℕ) (s : S) → Advances rules [] n s n s []
  Advances-none n s = record { texts = λ closing more. refl; faults = λ more. refl }

  -- one after the other
  Advances-two : (xs ys : List (List ℕ)) (n m k : ℕ) (s t u : S) (text text' : List ℕ) →
      Advances rules xs n s m t text → Advances rules ys m t k u text' →
      Advances rules (xs ++ ys) n s k u (text ++ text')
  Advances-two xs ys n m k s t u text text' f g = record {
    texts = λ closing more. simp append_assoc (f.texts closing (ys ++ more)
        ∙ ap (λ r. text ++ r) (g.texts closing more));
    faults = λ more. simp append_assoc (f.faults (ys ++ more) ∙ g.faults more);
  }

  -- a line that was executed, and its reply added
  abbrev pub RunsLine : List ℕ → ℕ → S → ℕ → S → Option (List ℕ) → Option (List ℕ) → Type 0
  RunsLine line n s n' s' old new = (reply : List ℕ) × (line_step rules s line ≡ Ok (s', reply))
      × (n' ≡ next_number n) × Appends old new reply

  Advances-line : (line : List ℕ) (n n' : ℕ) (s s' : S) (old new : Option (List ℕ))
      (h : RunsLine line n s n' s' old new) →
      Advances rules (line ∷ []) n s n' s' h.0
  Advances-line line n n' s s' old new h =
      record { texts = λ closing more. rw h.1 refl; faults = λ more. rw (h.1, h.2) refl }

  -- what the loop over the lines knows: the bytes before the rest were lines, and led here
  pub record AfterLines (bytes rest : List ℕ) (n : ℕ) (s : S) (n' : ℕ) (s' : S)
      (old new : Option (List ℕ)) : Type 0 where
    pub done : List ℕ
    pub whole : bytes ≡ done ++ rest
    pub lines : List (List ℕ)
    pub text : List ℕ
    pub parts : (more : List ℕ) → parts_of (bytes ++ more) ≡ lines ++ parts_of (rest ++ more)
    pub leads : Advances rules lines n s n' s' text
    pub appended : Appends old new text

  pub AfterLines-none : (bytes : List ℕ) (n : ℕ) (s : S) (old : Option (List ℕ)) →
      AfterLines bytes bytes n s n s old old
  AfterLines-none bytes n s old = record {
    done = [];
    whole = refl;
    lines = [];
    text = [];
    parts = λ more. refl;
    leads = Advances-none n s;
    appended = Appends-nil old;
  }

  -- one line more
  pub AfterLines-more : (bytes rest : List ℕ) (at : ℕ) (n m k : ℕ) (s t u : S) (old mid new : Option (List ℕ)) →
      AfterLines bytes rest n s m t old mid → IsFirstByte (is_byte 10) rest (Some at) →
      RunsLine (take at rest) m t k u mid new →
      AfterLines bytes (take (length rest - (at + 1)) (drop (at + 1) rest)) n s k u old new
  AfterLines-more bytes rest at n m k s t u old mid new a is h =
      let f = found 10 rest at is in
      let after = drop (at + 1) rest in
      rw (take_rest rest (at + 1)) (record {
        done = a.done ++ (take at rest ++ (10 ∷ []));
        whole = simp append_assoc (a.whole ∙ ap (λ r. a.done ++ r) f.1);
        lines = a.lines ++ (take at rest ∷ []);
        text = a.text ++ h.0;
        parts = λ more. simp append_assoc (a.parts more ∙ ap (λ p. a.lines ++ p)
            (ap (λ r. parts_of (r ++ more)) f.1 ∙ ap parts_of (append_assoc (take at rest) (10 ∷ after) more)
            ∙ parts-feed [] (take at rest) (after ++ more) none-in-none f.2));
        leads = Advances-two a.lines (take at rest ∷ []) n m k s t u a.text h.0 a.leads
            (Advances-line (take at rest) m k t u mid new h);
        appended = Appends-two old mid new a.text h.0 _ a.appended h.3 refl;
      })

  -- the last line feed was found
  pub AfterLines-end : (bytes rest : List ℕ) (n m : ℕ) (s t : S) (old new : Option (List ℕ)) →
      AfterLines bytes rest n s m t old new →
      HasNoFeed rest → length rest ≤ MAX_LINE → RunsLines rules bytes (length rest) n s m t old new
  AfterLines-end bytes rest n m s t old new a none short =
      let size : length bytes ≡ length a.done + length rest = ap length a.whole ∙ length-append a.done rest in
      let is : drop (length bytes - length rest) bytes ≡ rest = let at : length bytes - length rest ≡ length a.done =
      omega (arith, size) in
      rw at (ap (drop (length a.done)) a.whole ∙ drop-append_seam a.done rest) in (
        omega (arith, size),
        (
          a.lines,
          a.text,
          rw is (record { parts = a.parts; unended = none; short = short }),
          a.leads,
          a.appended,
        ),
      )

  module _ (closing : S → List ℕ) where
    abbrev all : ℕ → S → Transcript
    all n s = transcript rules closing n s

    -- an error after lines is one of all
    error-after : (lines more : List (List ℕ)) (n m : ℕ) (s t : S) (text : List ℕ) (old mid new : Option (List ℕ))
        (e : BenchError) →
        Advances rules lines n s m t text → Appends old mid text → ErrorOfLines (all m t) more mid new e →
        ErrorOfLines (all n s) (lines ++ more) old new e
    error-after lines more n m s t text old mid new OutOfMemory g w h = (
      length lines + h.0,
      Appends-two old mid new text _ _ w h.1
          (sym (ap (replies_of rules s) (take-append-add lines more h.0) ∙ g.texts (λ _. []) (take h.0 more))),
    )
    error-after lines more n m s t text old mid new WriteFailed g w h =
        rw (g.texts closing more) (AppendsPrefix-after old mid new text (text_of rules closing t more) w h)
    error-after lines more n m s t text old mid new ReadFailed g w h = h
    error-after lines more n m s t text old mid new e g w h =
        (g.faults more ∙ h.0, Appends-two old mid new text _ _ w h.1 (sym (g.texts closing more)))

    -- the beginning of a line that is too long, whatever comes after it
    too_long : (n : ℕ) (s : S) (line rest : List ℕ) (old : Option (List ℕ)) → HasNoFeed line → MAX_LINE < length line →
        ErrorOfLines (all n s) (lines_of (line ++ rest)) old old (LineTooLong n)
    too_long n s line rest old none long =
        let (part, parts, is) = parts-cons (λ b. b == 10) rest in
        whole (line ++ part) parts (parts-prefix line rest part parts none is) (omega (arith, length-append line part))
      where
        whole : (part : List ℕ) (parts : List (List ℕ)) → parts_of (line ++ rest) ≡ part ∷ parts →
            MAX_LINE < length part →
            ErrorOfLines (all n s) (lines_of (line ++ rest)) old old (LineTooLong n)
        whole [] parts e more = absurd (omega arith)
        whole (b ∷ part) parts e more =
            let test : nat_lt MAX_LINE (length (b ∷ part)) ≡ true = lt-ltb MAX_LINE (length (b ∷ part)) more in
            rw ((lines-nonempty (line ++ rest) part parts b e).1, test) (refl, Appends-nil old)

    -- an error of one of the lines
    pub AfterLines-err : (bytes rest : List ℕ) (at : ℕ) (n m : ℕ) (s t : S) (more : List ℕ)
        (old mid new : Option (List ℕ)) (e : BenchError) →
        AfterLines bytes rest n s m t old mid → IsFirstByte (is_byte 10) rest (Some at) →
        ((more : List (List ℕ)) → ErrorOfLines (all m t) (take at rest ∷ more) mid new e) →
        ErrorOfLines (all n s) (lines_of (bytes ++ more)) old new e
    AfterLines-err bytes rest at n m s t more old mid new e a is h =
        let f = found 10 rest at is in
        let after = drop (at + 1) rest ++ more in
        let next : rest ++ more ≡ take at rest ++ (10 ∷ after) = ap (λ r. r ++ more) f.1
        ∙ append_assoc (take at rest) (10 ∷ drop (at + 1) rest) more in
        let lines : lines_of (rest ++ more) ≡ take at rest ∷ lines_of after =
        ap lines_of next ∙ lines-from_parts (take at rest ++ (10 ∷ after)) (take at rest ∷ []) after
        (parts-feed [] (take at rest) after none-in-none f.2)
        in
        rw (lines-from_parts (bytes ++ more) a.lines (rest ++ more) (a.parts more))
        (error-after a.lines (lines_of (rest ++ more)) n m s t a.text old mid new e a.leads a.appended
        (rw lines (h (lines_of after))))

    -- the beginning of a line that is too long
    pub AfterLines-long : (bytes rest : List ℕ) (n m : ℕ) (s t : S) (more : List ℕ) (old new : Option (List ℕ)) →
        AfterLines bytes rest n s m t old new → HasNoFeed rest → MAX_LINE < length rest →
        ErrorOfLines (all n s) (lines_of (bytes ++ more)) old new (LineTooLong m)
    AfterLines-long bytes rest n m s t more old new a none long =
        rw (lines-from_parts (bytes ++ more) a.lines (rest ++ more) (a.parts more))
        (error-after a.lines (lines_of (rest ++ more)) n m s t a.text old new new (LineTooLong m) a.leads a.appended
        (too_long m t rest more new none long))

    -- ---- the end of the input

    -- the last line has no fault, and its reply and the closing text were added
    abbrev pub RunsLast : List ℕ → ℕ → S → Option (List ℕ) → Option (List ℕ) → Type 0
    RunsLast line n s old new = (first_fault rules n s (lines_of line) ≡ None)
        × Appends old new (text_of rules closing s (lines_of line))

    pub last-ok : (line : List ℕ) (n m : ℕ) (s t : S) (old mid new : Option (List ℕ)) → 0 < length line →
        HasNoFeed line →
        RunsLine line n s m t old mid → Appends mid new (closing t) → RunsLast line n s old new
    last-ok line n m s t old mid new some none h w =
        rw (lines-one line some none, h.1) (refl, Appends-two old mid new h.0 (closing t) _ h.3 w refl)

    pub last-err : (line : List ℕ) (n m : ℕ) (s t : S) (old mid : Option (List ℕ)) → 0 < length line → HasNoFeed line →
        RunsLine line n s m t old mid → ErrorOfLines (all n s) (lines_of line) old mid OutOfMemory
    last-err line n m s t old mid some none h = rw (lines-one line some none) (1, rw (h.1, append-nil h.0) h.3)

    -- ---- the replies are written

    module _ (lines : List (List ℕ)) (n : ℕ) (s : S) (old new : Option (List ℕ)) (replies : List ℕ) where
      pub written : (e : BenchError) → ErrorOfLines (all n s) lines (Some []) (Some replies) e →
          Appends old new replies → ErrorOfLines (all n s) lines old new e
      written WriteFailed h w = record { written = h.written; prefix = h.prefix; appended = rw (← h.appended) w }
      written ReadFailed h w = h
      written e h w = (h.0, rw (← h.1) w)

    -- the replies of some lines are a prefix of the text
    replies-prefix : (s : S) (k : ℕ) (lines : List (List ℕ)) →
        (rest : List ℕ) × (text_of rules closing s lines ≡ replies_of rules s (take k lines) ++ rest)
    replies-prefix s zero lines = (text_of rules closing s lines, refl)
    replies-prefix s (suc k) [] = (closing s, refl)
    replies-prefix s (suc k) (line ∷ lines) =
        elim (line_step rules s line) as (λ v. (rest : List ℕ) ×
        (by_step (λ next reply. reply ++ text_of rules closing next lines) (λ _. []) v ≡ by_step
        (λ next reply. reply ++ replies_of rules next (take k lines)) (λ _. []) v ++ rest)) [
          | Ok next ↦
              let (rest, is) = replies-prefix next.0 k lines in
              (rest, ap (λ t. next.1 ++ t) is ∙ sym (append_assoc next.1 (replies_of rules next.0 (take k lines)) rest))
          | Err fault ↦ ([], refl)
        ]

    -- so is what was added before an error
    error-prefix : (lines : List (List ℕ)) (n : ℕ) (s : S) (replies : List ℕ) (e : BenchError) →
        ErrorOfLines (all n s) lines (Some []) (Some replies) e →
        (rest : List ℕ) × (text_of rules closing s lines ≡ replies ++ rest)
    error-prefix lines n s replies OutOfMemory h = let (rest, is) = replies-prefix s h.0 lines in
        (rest, is ∙ ap (λ t. t ++ rest) (sym h.1))
    error-prefix lines n s replies WriteFailed h =
        let rest : List ℕ = drop (length h.written) (text_of rules closing s lines) in
        (rest, starts_with_rest _ h.written h.prefix ∙ ap (λ t. t ++ rest) (sym h.appended))
    error-prefix lines n s replies ReadFailed h = absurd h
    error-prefix lines n s replies e h = ([], sym h.1 ∙ sym (append-nil replies))

    -- the replies can't be written
    pub lines-unwritten : (bytes more : List ℕ) (n m : ℕ) (s t : S) (old new : Option (List ℕ)) (replies : List ℕ)
        (outcome : Result ℕ BenchError) →
        AppendsPrefix old new replies →
        IfOk outcome (λ held. RunsLines rules bytes held n s m t (Some []) (Some replies)) →
        IfErr outcome (λ e. (more : List ℕ) →
        ErrorOfLines (all n s) (lines_of (bytes ++ more)) (Some []) (Some replies) e) →
        ErrorOfLines (all n s) (lines_of (bytes ++ more)) old new WriteFailed
    lines-unwritten bytes more n m s t old new replies (Ok held) w ok err =
        let (within, (lines, text, ends, leads, is)) = ok in
        let rest : List ℕ = drop (length bytes - held) bytes ++ more in
        rw (lines-from_parts (bytes ++ more) lines rest (ends.parts more), leads.texts closing (lines_of rest), ← is)
        (AppendsPrefix-more old new replies (text_of rules closing t (lines_of rest)) w)
    lines-unwritten bytes more n m s t old new replies (Err e) w ok err =
        let (rest, is) = error-prefix (lines_of (bytes ++ more)) n s replies e (err more) in
        rw is (AppendsPrefix-more old new replies rest w)

    pub last-unwritten : (line : List ℕ) (n : ℕ) (s : S) (old new : Option (List ℕ)) (replies : List ℕ)
        (outcome : Result (Unit {0}) BenchError) →
        AppendsPrefix old new replies → OnOk outcome (RunsLast line n s (Some []) (Some replies)) →
        IfErr outcome (λ e. ErrorOfLines (all n s) (lines_of line) (Some []) (Some replies) e) →
        ErrorOfLines (all n s) (lines_of line) old new WriteFailed
    last-unwritten line n s old new replies (Ok x) w ok err = rw (← ok.1) w
    last-unwritten line n s old new replies (Err e) w ok err =
        let (rest, is) = error-prefix (lines_of line) n s replies e err in
        rw is (AppendsPrefix-more old new replies rest w)

    -- ---- the reads

    -- what the loop over the reads knows: these bytes came, and led here
    pub record AfterReads (before now old new : Option (List ℕ)) (line : List ℕ) (n : ℕ) (session s : S) : Type 0 where
      pub given : List ℕ
      pub read : Consumes before now given
      pub lines : List (List ℕ)
      pub text : List ℕ
      pub ends : EndsLines given lines line
      pub leads : Advances rules lines 1 session n s text
      pub appended : Appends old new text

    pub AfterReads-none : (before old : Option (List ℕ)) (session : S) →
        AfterReads before before old old [] 1 session session
    AfterReads-none before old session = record {
      given = [];
      read = Consumes-nil before;
      lines = [];
      text = [];
      ends = record { parts = λ more. refl; unended = none-in-none; short = omega arith };
      leads = Advances-none 1 session;
      appended = Appends-nil old;
    }

    module _ (before now old mid : Option (List ℕ)) (line : List ℕ) (n : ℕ) (session s : S)
        (c : AfterReads before now old mid line n session s) where
      -- the lines, once more bytes came
      parts-given : (bytes more : List ℕ) → parts_of ((c.given ++ bytes) ++ more) ≡ c.lines
          ++ parts_of ((line ++ bytes) ++ more)
      parts-given bytes more = simp append_assoc (c.ends.parts (bytes ++ more))

      -- one read more
      pub AfterReads-more : (after new : Option (List ℕ)) (bytes : List ℕ) (held m : ℕ) (t : S) →
          Consumes now after bytes →
          RunsLines rules (line ++ bytes) held n s m t mid new →
          AfterReads before after old new (drop (length (line ++ bytes) - held) (line ++ bytes)) m session t
      AfterReads-more after new bytes held m t r (within, (lines, text, ends, leads, w)) = record {
        given = c.given ++ bytes;
        read = Consumes-trans before now after c.given bytes c.read r;
        lines = c.lines ++ lines;
        text = c.text ++ text;
        ends = record {
          parts = λ more. parts-given bytes more ∙ ap (λ p. c.lines ++ p) (ends.parts more)
              ∙ sym (append_assoc c.lines lines _);
          unended = ends.unended;
          short = ends.short;
        };
        leads = Advances-two c.lines lines 1 n m session s t c.text text c.leads leads;
        appended = Appends-two old mid new c.text text _ c.appended w refl;
      }

      of_input : (input : List ℕ) (left new : Option (List ℕ)) (e : BenchError) →
          ErrorOfLines (all 1 session) (lines_of input) old new e →
          ErrorOfInput (all 1 session) input left old new e
      of_input input left new ReadFailed h = absurd h
      of_input input left new e h = h

      -- an error in the bytes that a read gave
      pub AfterReads-err : (after new : Option (List ℕ)) (bytes : List ℕ) (e : BenchError) → Consumes now after bytes →
          ((more : List ℕ) → ErrorOfLines (all n s) (lines_of ((line ++ bytes) ++ more)) mid new e) →
          IfSome before (λ input. ErrorOfInput (all 1 session) input after old new e)
      AfterReads-err after new bytes e r h = known before after (Consumes-trans before now after c.given bytes c.read r)
        where
          known : (before after : Option (List ℕ)) → Consumes before after (c.given ++ bytes) →
              IfSome before (λ input. ErrorOfInput (all 1 session) input after old new e)
          known None after r = tt
          known (Some input) None r = absurd r
          known (Some input) (Some rest) r = of_input input (Some rest) new e
              (rw (
                r,
                lines-from_parts ((c.given ++ bytes) ++ rest) c.lines ((line ++ bytes)
                    ++ rest) (parts-given bytes rest),
              )
              (error-after c.lines _ 1 n session s c.text old mid new e c.leads c.appended (h rest)))

      -- the end
      lines-given : lines_of c.given ≡ c.lines ++ lines_of line
      lines-given = lines-from_parts c.given c.lines line (simp append-nil at (c.ends.parts []))

      module _ (after new : Option (List ℕ)) (r : Consumes now after []) (end : IsAtEnd after) where
        all_of : (P : List ℕ → Type 0) → P c.given → IfSome before P
        all_of P = Consumes-whole before after c.given P
            (rw (append-nil c.given) at (Consumes-trans before now after c.given [] c.read r)) end

        pub AfterReads-end : RunsLast line n s mid new →
            IfSome before (λ input. (first_fault rules 1 session (lines_of input) ≡ None)
            × Appends old new (text_of rules closing session (lines_of input)))
        AfterReads-end h = all_of _ (rw lines-given (
          c.leads.faults (lines_of line) ∙ h.0,
          Appends-two old mid new c.text _ _ c.appended h.1 (sym (c.leads.texts closing (lines_of line))),
        ))

        pub AfterReads-end_err : (e : BenchError) → ErrorOfLines (all n s) (lines_of line) mid new e →
            IfSome before (λ input. ErrorOfInput (all 1 session) input after old new e)
        AfterReads-end_err e h = all_of _ (of_input c.given after new e (rw lines-given
            (error-after c.lines (lines_of line) 1 n session s c.text old mid new e c.leads c.appended h)))

    -- a read that fails
    pub AfterReads-failed : (before now after old new : Option (List ℕ)) (line : List ℕ) (n : ℕ) (session s : S) →
        AfterReads before now old new line n session s → Keeps now after →
        IfSome before (λ input. ErrorOfInput (all 1 session) input after old new ReadFailed)
    AfterReads-failed None now after old new line n session s c k = tt
    AfterReads-failed (Some input) now after old new line n session s c k =
        let parts : parts_of c.given ≡ c.lines ++ parts_of line = simp append-nil at (c.ends.parts []) in
        let ended : ended_lines c.given ≡ c.lines ++ [] = ended-from_parts c.given c.lines line parts
        ∙ ap (λ t. c.lines ++ t) (ended-none line c.ends.unended)
        in (
          c.given,
          Consumes-kept (Some input) now after c.given c.read k,
          rw ended (c.leads.faults []),
          rw (ended, c.leads.texts (λ _. []) [], append-nil c.text) c.appended,
          rw (unended-from_parts c.given c.lines line c.ends.unended parts) c.ends.short,
        )
