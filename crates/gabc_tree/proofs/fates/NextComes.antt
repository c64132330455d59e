-- The first of the characters that are to come may come next.
use Rattle.std.proofs.Common.{◌≡◌, ℕ, reverse, ◌+◌, ◌≤◌, Bool, true, false, true≢false, cond, not, ◌&&◌, ◌||◌, ◌==◌, List, [], ◌∷◌, ◌++◌, length, length-append, Option, Some, None, is_some, nat_le, nat_lt, refl, sym, ap, subst, ◌∙◌, append_assoc, append-nil, arith}
use Rattle.std.specs.Option.{option_map}
use Rattle.std.proofs.lemmas.Bool.{leb-true, le-leb}
use Rattle.gabc_places.specs.Fate.{Fate, Keep, Comment, Ends, LeaveOut}
use Rattle.gabc_places.specs.declared.code.Code.TheVariants.{E1, E3}
use Rattle.gabc_places.specs.declared.limits.Limits.{Limits}
use Rattle.gabc_places.specs.declared.place.Char.{Char}
use Rattle.gabc_places.specs.declared.place.Place.{Place}
use Rattle.gabc_patterns.specs.Reads.{whole_front}
use Rattle.gabc_text.specs.KeptText.{belongs}
use Rattle.gabc_text.specs.Token.{tokens, is_blank}
use Rattle.gabc_notes.specs.Table.{gabc}
use Rattle.gabc_notes.specs.KeptNotes.{is_snippet, is_viable, in_raw, fate_in_notes}
use Rattle.gabc_nabc.specs.KeptNabc as nabc_text
use Rattle.gabc_nabc.specs.KeptNabc.{fate_in_nabc}
use Rattle.gabc_nabc.specs.Table.{nabc}
use Rattle.gabc_body.specs.Reading.{Part, InText, InNotes, BodyRead, fate_by, kept_as, whole_of, past, code_now}
use Rattle.gabc_body.specs.declared.ending.InputEnding.{InputEnding}
use Rattle.gabc_body.specs.declared.ending.InputEnding.TheVariants.{Whole, Broken, At}
use Rattle.gabc_tree.specs.Fates.{fate_at, ends, kept_at_end, is_cut_by}
use Rattle.gabc_tree.proofs.fates.Steps.{Step, comments, leaves, keeps, opens, splits, closes, step}
use Rattle.gabc_tree.proofs.fates.Coming.{makes_last, or_none, with_next, coming}
use Rattle.gabc_tree.proofs.fates.NextKept.{none_holds, is_shown, MayCome, text_ends}
use Rattle.gabc_tree.proofs.fates.CutEnds.{blank_snippet, is_mark, is_raw_in, ends_at_mark, mark_ends, raw_closes, longest_front}

-- ---- options

pub some_is : {A : Type 0} (s : Bool) (o : Option A) (ks : A) → cond s None o ≡ Some ks → (s ≡ false) × (o ≡ Some ks)
some_is true o ks h = absurd (cc)
some_is false o ks h = (refl, h)

pub map_is : {A B : Type 0} (f : A → B) (o : Option A) (ks : B) → option_map f o ≡ Some ks → (js : A) × (o ≡ Some js) × (f js ≡ ks)
map_is f None ks h = absurd (cc)
map_is f (Some js) ks h = (js, refl, (cc))

either : (o : Bool) (n : ℕ) → cond o n n ≡ n
either true n = refl
either false n = refl

-- ---- the fate, and what is kept at the end

-- outside a comment it is by what is kept
pub fate_here : (lines : ℕ) (b : BodyRead) (x : Char) → (b.reading.comment && not (x.c == 10)) ≡ false → fate_at lines b x ≡ fate_by lines b.reading.part b.reading.kept x.c
fate_here lines b x n = ap (λ (o : Bool). cond o Comment (fate_by lines b.reading.part b.reading.kept x.c)) n

pub all_is : (lines macros : ℕ) (b : BodyRead) (x : Char) (xs : List Char) (f : Fate) → fate_at lines b x ≡ f
    → kept_at_end lines macros b (x ∷ xs) ≡ cond (ends f) b.reading.kept (kept_at_end lines macros (past lines macros b x) xs)
all_is lines macros b x xs f e = ap (λ (g : Fate). cond (ends g) b.reading.kept (kept_at_end lines macros (past lines macros b x) xs)) e

parts_apart : (line : ℕ) → InText ≡ InNotes line → ⊥
parts_apart line h = cc

-- what is kept at the end of the part goes on from what is kept
record GoesOn (kept all : List ℕ) : Type 0 where
  more : List ℕ
  is : all ≡ kept ++ more

goes_from : (k m all : List ℕ) (c : ℕ) → m ≡ k ++ c ∷ [] → GoesOn m all → GoesOn k all
goes_from k m all c e g = record { more = c ∷ g.more; is = g.is ∙ (ap (λ (u : List ℕ). u ++ g.more) e ∙ append_assoc k (c ∷ []) g.more) }

kept_on : (lines macros : ℕ) (b : BodyRead) (xs : List Char) → GoesOn b.reading.kept (kept_at_end lines macros b xs)
kept_on lines macros b [] = record { more = []; is = sym (append-nil b.reading.kept) }
kept_on lines macros b (x ∷ xs) = by (step lines macros b x) (kept_on lines macros (past lines macros b x) xs)
  where
    here : (f : Fate) → fate_at lines b x ≡ f → ends f ≡ true → GoesOn b.reading.kept (kept_at_end lines macros b (x ∷ xs))
    here f e n = record { more = []; is = all_is lines macros b x xs f e ∙ (ap (λ (o : Bool). cond o b.reading.kept (kept_at_end lines macros (past lines macros b x) xs)) n ∙ sym (append-nil b.reading.kept)) }

    by : Step lines b x (past lines macros b x) → GoesOn (past lines macros b x).reading.kept (kept_at_end lines macros (past lines macros b x) xs) → GoesOn b.reading.kept (kept_at_end lines macros b (x ∷ xs))
    by (comments e s) g = record { more = g.more; is = all_is lines macros b x xs Comment e ∙ (g.is ∙ ap (λ (u : List ℕ). u ++ g.more) s.kept_is) }
    by (leaves code n e s) g = record { more = g.more; is = all_is lines macros b x xs (LeaveOut code) e ∙ (g.is ∙ ap (λ (u : List ℕ). u ++ g.more) s.kept_is) }
    by (keeps n e s) g =
        let r = goes_from b.reading.kept (past lines macros b x).reading.kept (kept_at_end lines macros (past lines macros b x) xs) (kept_as b.reading.part b.reading.kept x.c) s.kept_is g in
        record { more = r.more; is = all_is lines macros b x xs Keep e ∙ r.is }
    by (opens n e p s) g = here Ends e refl
    by (splits line n e p m s) g = here Ends e refl
    by (closes line n e p m s) g = here Ends e refl

module _ (limits : Limits) (head lines macros : ℕ) (at_end : Place) (ending : InputEnding) where
  abbrev Coming : BodyRead → List Char → Option (List ℕ)
  Coming b xs = coming limits head lines macros at_end ending b xs

  -- the end makes no syllable of what is left open
  notes_end : (ending : InputEnding) (b : BodyRead) (line : ℕ) → b.reading.part ≡ InNotes line → makes_last limits head at_end ending b ≡ false
  notes_end Whole b line p = rw p refl
  notes_end Broken b line p = refl
  notes_end (At fault) b line p = refl

  none_at_end : (b : BodyRead) (line : ℕ) (ks : List ℕ) → b.reading.part ≡ InNotes line → Coming b [] ≡ Some ks → ⊥
  none_at_end b line ks p h = let e = notes_end ending b line p in by (makes_last limits head at_end ending b) e h
    where
      by : (o : Bool) → o ≡ false → cond o (Some []) None ≡ Some ks → ⊥
      by true e h = true≢false e
      by false e h = cc

  -- what comes after a character, by what becomes of it
  pub with_fate : (b : BodyRead) (x : Char) (xs : List Char) (ks : List ℕ) (f : Fate) → fate_at lines b x ≡ f → Coming b (x ∷ xs) ≡ Some ks
      → with_next b.reading.part b.reading.kept (kept_at_end lines macros b (x ∷ xs)) x.c f (Coming (past lines macros b x) xs) ≡ Some ks
  with_fate b x xs ks f e h =
      ap (λ (g : Fate). with_next b.reading.part b.reading.kept (kept_at_end lines macros b (x ∷ xs)) x.c g (Coming (past lines macros b x) xs)) (sym e)
      ∙ (some_is (is_some (code_now limits head (past lines macros b x))) _ ks h).1

  pub with_part : (b : BodyRead) (x : Char) (xs : List Char) (ks : List ℕ) (f : Fate) (part : Part) → b.reading.part ≡ part → fate_at lines b x ≡ f → Coming b (x ∷ xs) ≡ Some ks
      → with_next part b.reading.kept (kept_at_end lines macros b (x ∷ xs)) x.c f (Coming (past lines macros b x) xs) ≡ Some ks
  with_part b x xs ks f part p e h =
      ap (λ (q : Part). with_next q b.reading.kept (kept_at_end lines macros b (x ∷ xs)) x.c f (Coming (past lines macros b x) xs)) (sym p) ∙ with_fate b x xs ks f e h

  -- ---- inside raw nothing is cut

  abbrev RawStays : ℕ → BodyRead → List Char → Type 0
  RawStays line b xs = (ks : List ℕ) → b.reading.part ≡ InNotes line → in_raw b.reading.kept ≡ true → Coming b xs ≡ Some ks → length b.reading.kept + 1 ≤ length (whole_of line (kept_at_end lines macros b xs))

  raw_step : (line : ℕ) (b : BodyRead) (x : Char) (xs : List Char) → (line == 0) ≡ true → RawStays line (past lines macros b x) xs → RawStays line b (x ∷ xs)
  raw_step line b x xs l later ks p r h = by (step lines macros b x)
    where
      same : (f : Fate) → ends f ≡ false → fate_at lines b x ≡ f → (past lines macros b x).reading.part ≡ b.reading.part → (past lines macros b x).reading.kept ≡ b.reading.kept → Coming (past lines macros b x) xs ≡ Some ks
          → length b.reading.kept + 1 ≤ length (whole_of line (kept_at_end lines macros b (x ∷ xs)))
      same f n e q k i =
          subst (λ (u : List ℕ). length b.reading.kept + 1 ≤ length (whole_of line u)) (sym (all_is lines macros b x xs f e ∙ ap (λ (o : Bool). cond o b.reading.kept (kept_at_end lines macros (past lines macros b x) xs)) n))
          (subst (λ (u : List ℕ). length u + 1 ≤ length (whole_of line (kept_at_end lines macros (past lines macros b x) xs))) k
          (later ks (q ∙ p) (ap in_raw k ∙ r) i))

      not_ended : (f : Fate) → f ≡ Ends → (b.reading.comment && not (x.c == 10)) ≡ false → fate_at lines b x ≡ f → ⊥
      not_ended f is n e =
          let kept : fate_by lines b.reading.part b.reading.kept x.c ≡ Keep = ap (λ (q : Part). fate_by lines q b.reading.kept x.c) p ∙ rw (l, r) refl in
          cc (sym kept ∙ (sym (fate_here lines b x n) ∙ (e ∙ is)))

      more : (kept' : List ℕ) → (past lines macros b x).reading.kept ≡ b.reading.kept ++ x.c ∷ [] → (past lines macros b x).reading.part ≡ b.reading.part → (js : List ℕ) → Coming (past lines macros b x) xs ≡ Some js
          → (o : Bool) → in_raw (b.reading.kept ++ x.c ∷ []) ≡ o
          → length b.reading.kept + 1 ≤ length (whole_of line (kept_at_end lines macros (past lines macros b x) xs))
      more u k q js i true o =
          let n : length (b.reading.kept ++ x.c ∷ []) ≡ length b.reading.kept + 1 = length-append b.reading.kept (x.c ∷ []) in
          let m = ap length k in
          let f = later js (q ∙ p) (ap in_raw k ∙ o) i in
          omega (arith, n, m, f)
      more u k q js i false o =
          let n : length (b.reading.kept ++ x.c ∷ []) ≡ length b.reading.kept + 1 = length-append b.reading.kept (x.c ∷ []) in
          let m = ap length k in
          let g = kept_on lines macros (past lines macros b x) xs in
          let f = longest_front (past lines macros b x).reading.kept g.more (ap is_snippet k ∙ raw_closes b.reading.kept x.c r o) in
          let is : whole_of line (kept_at_end lines macros (past lines macros b x) xs) ≡ whole_front gabc ((past lines macros b x).reading.kept ++ g.more) = ap (whole_of line) g.is ∙ ap (λ (o : Bool). cond o (whole_front gabc ((past lines macros b x).reading.kept ++ g.more)) (whole_front nabc ((past lines macros b x).reading.kept ++ g.more))) l in
          let long = ap length is in
          omega (arith, n, m, f, long)

      kept_then : (js : List ℕ) → fate_at lines b x ≡ Keep → (past lines macros b x).reading.kept ≡ b.reading.kept ++ x.c ∷ [] → (past lines macros b x).reading.part ≡ b.reading.part → Coming (past lines macros b x) xs ≡ Some js
          → length b.reading.kept + 1 ≤ length (whole_of line (kept_at_end lines macros b (x ∷ xs)))
      kept_then js e k q i = subst (λ (u : List ℕ). length b.reading.kept + 1 ≤ length (whole_of line u)) (sym (all_is lines macros b x xs Keep e)) (more [] k q js i (in_raw (b.reading.kept ++ x.c ∷ [])) refl)

      by : Step lines b x (past lines macros b x) → length b.reading.kept + 1 ≤ length (whole_of line (kept_at_end lines macros b (x ∷ xs)))
      by (comments e s) = same Comment refl e s.part_is s.kept_is (with_fate b x xs ks Comment e h)
      by (leaves code n e s) = same (LeaveOut code) refl e s.part_is s.kept_is (with_fate b x xs ks (LeaveOut code) e h)
      by (keeps n e s) =
          let j = map_is _ (Coming (past lines macros b x) xs) ks (with_part b x xs ks Keep (InNotes line) p e h) in
          kept_then j.0 e (s.kept_is ∙ ap (λ (q : Part). b.reading.kept ++ kept_as q b.reading.kept x.c ∷ []) p) s.part_is j.1
      by (opens n e q s) = absurd (parts_apart line (sym q ∙ p))
      by (splits m n e q f s) = absurd (not_ended Ends refl n e)
      by (closes m n e q f s) = absurd (not_ended Ends refl n e)

  pub raw_stays_kept : (xs : List Char) (b : BodyRead) (line : ℕ) → (line == 0) ≡ true → RawStays line b xs
  raw_stays_kept [] b line l = λ ks p r h. absurd (none_at_end b line ks p h)
  raw_stays_kept (x ∷ xs) b line l = raw_step line b x xs l (raw_stays_kept xs (past lines macros b x) line l)

  -- ---- what is cut stands before a mark

  pub record MarkFirst (line : ℕ) (ks : List ℕ) : Type 0 where
    pub mark : ℕ
    pub more : List ℕ
    pub marks : is_mark lines line mark ≡ true
    pub is : ks ≡ mark ∷ more

  abbrev CutEnds : ℕ → BodyRead → List Char → Type 0
  CutEnds line b xs = (ks : List ℕ) → b.reading.part ≡ InNotes line → length (whole_of line (kept_at_end lines macros b xs)) ≤ length b.reading.kept → Coming b xs ≡ Some ks → MarkFirst line ks

  cut_step : (line : ℕ) (b : BodyRead) (x : Char) (xs : List Char) → CutEnds line (past lines macros b x) xs → CutEnds line b (x ∷ xs)
  cut_step line b x xs later ks p l h = by (step lines macros b x)
    where
      short : (f : Fate) → ends f ≡ false → fate_at lines b x ≡ f → length (whole_of line (kept_at_end lines macros (past lines macros b x) xs)) ≤ length b.reading.kept
      short f n e = subst (λ (u : List ℕ). length (whole_of line u) ≤ length b.reading.kept) (all_is lines macros b x xs f e ∙ ap (λ (o : Bool). cond o b.reading.kept (kept_at_end lines macros (past lines macros b x) xs)) n) l

      same : (f : Fate) → ends f ≡ false → fate_at lines b x ≡ f → (past lines macros b x).reading.part ≡ b.reading.part → (past lines macros b x).reading.kept ≡ b.reading.kept → Coming (past lines macros b x) xs ≡ Some ks → MarkFirst line ks
      same f n e q k i = later ks (q ∙ p) (subst (λ (u : List ℕ). length (whole_of line (kept_at_end lines macros (past lines macros b x) xs)) ≤ length u) (sym k) (short f n e)) i

      here : (m : ℕ) → b.reading.part ≡ InNotes m → (b.reading.comment && not (x.c == 10)) ≡ false → fate_at lines b x ≡ Ends → (more : List ℕ) → x.c ∷ more ≡ ks → MarkFirst line ks
      here m q n e more i = record {
        mark = x.c;
        more = more;
        marks = ends_at_mark lines line b.reading.kept x.c (ap (λ (q : Part). fate_by lines q b.reading.kept x.c) (sym p) ∙ (sym (fate_here lines b x n) ∙ e));
        is = sym i;
      }

      ended : (m : Bool) (o : Option (List ℕ)) → cond m (option_map (λ (us : List ℕ). x.c ∷ us) o) (Some (x.c ∷ or_none o)) ≡ Some ks → (more : List ℕ) × (x.c ∷ more ≡ ks)
      ended true o i = let j = map_is (λ (us : List ℕ). x.c ∷ us) o ks i in (j.0, j.2)
      ended false o i = (or_none o, (cc))

      by : Step lines b x (past lines macros b x) → MarkFirst line ks
      by (comments e s) = same Comment refl e s.part_is s.kept_is (with_fate b x xs ks Comment e h)
      by (leaves code n e s) = same (LeaveOut code) refl e s.part_is s.kept_is (with_fate b x xs ks (LeaveOut code) e h)
      by (keeps n e s) =
          let next = past lines macros b x in
          let j = map_is _ (Coming next xs) ks (with_part b x xs ks Keep (InNotes line) p e h) in
          let cut : nat_le (length (whole_of line (kept_at_end lines macros b (x ∷ xs)))) (length b.reading.kept) ≡ true = le-leb _ _ l in
          let one : length next.reading.kept ≡ length b.reading.kept + 1 = ap length s.kept_is ∙ length-append b.reading.kept (_ ∷ []) in
          let less = short Keep refl e in
          later ks (s.part_is ∙ p) (omega (arith, one, less))
          (j.1 ∙ ap Some (sym (ap (λ (o : Bool). cond o j.0 (kept_as (InNotes line) b.reading.kept x.c ∷ j.0)) cut) ∙ j.2))
      by (opens n e q s) = absurd (parts_apart line (sym q ∙ p))
      by (splits m n e q f s) = let j = ended (x.c == 124) (Coming (past lines macros b x) xs) (with_part b x xs ks Ends (InNotes line) p e h) in here m q n e j.0 j.1
      by (closes m n e q f s) = let j = ended (x.c == 124) (Coming (past lines macros b x) xs) (with_part b x xs ks Ends (InNotes line) p e h) in here m q n e j.0 j.1

  pub cut_ends : (xs : List Char) (b : BodyRead) (line : ℕ) → CutEnds line b xs
  cut_ends [] b line = λ ks p l h. absurd (none_at_end b line ks p h)
  cut_ends (x ∷ xs) b line = cut_step line b x xs (cut_ends xs (past lines macros b x) line)

  -- ---- the first that comes

  abbrev NextMay : BodyRead → List Char → Type 0
  NextMay b xs = (d : ℕ) (ks : List ℕ) → Coming b xs ≡ Some (d ∷ ks) → MayCome lines b.reading.part b.reading.kept d

  may_same : (b next : BodyRead) (d : ℕ) → next.reading.part ≡ b.reading.part → next.reading.kept ≡ b.reading.kept → MayCome lines next.reading.part next.reading.kept d → MayCome lines b.reading.part b.reading.kept d
  may_same b next d p k m = subst (λ (q : Part). MayCome lines q b.reading.kept d) p (subst (λ (u : List ℕ). MayCome lines next.reading.part u d) k m)

  -- if a character is kept that is cut, it is outside raw
  pub cut_outside : (b : BodyRead) (x : Char) (xs : List Char) (line : ℕ) (ks : List ℕ) → b.reading.part ≡ InNotes line → Coming b (x ∷ xs) ≡ Some ks
      → nat_le (length (whole_of line (kept_at_end lines macros b (x ∷ xs)))) (length b.reading.kept) ≡ true → is_raw_in line b.reading.kept ≡ false
  cut_outside b x xs line ks p h cut = by (line == 0) refl (in_raw b.reading.kept) refl
    where
      by : (o : Bool) → (line == 0) ≡ o → (r : Bool) → in_raw b.reading.kept ≡ r → (o && r) ≡ false
      by false l r e = refl
      by true l false e = refl
      by true l true e = absurd (let more = raw_stays_kept (x ∷ xs) b line l ks p e h in let less = leb-true _ _ cut in omega (arith, more, less))

  next_step : (b : BodyRead) (x : Char) (xs : List Char) → NextMay (past lines macros b x) xs → NextMay b (x ∷ xs)
  next_step b x xs later d ks h = by (step lines macros b x)
    where
      shows : (f : Fate) → (b.reading.comment && not (x.c == 10)) ≡ false → fate_at lines b x ≡ f → is_shown f ≡ true → is_shown (fate_by lines b.reading.part b.reading.kept x.c) ≡ true
      shows f n e i = ap is_shown (sym (fate_here lines b x n) ∙ e) ∙ i

      ends_here : (line : ℕ) → (b.reading.comment && not (x.c == 10)) ≡ false → fate_at lines b x ≡ Ends → b.reading.part ≡ InNotes line → d ≡ x.c → MayCome lines b.reading.part b.reading.kept d
      ends_here line n e p i = record { from = x.c; shown = shows Ends n e refl; is = i ∙ ap (λ (q : Part). kept_as q b.reading.kept x.c) (sym p) }

      first : (m : Bool) (o : Option (List ℕ)) → cond m (option_map (λ (us : List ℕ). x.c ∷ us) o) (Some (x.c ∷ or_none o)) ≡ Some (d ∷ ks) → d ≡ x.c
      first true o i = let j = map_is (λ (us : List ℕ). x.c ∷ us) o (d ∷ ks) i in cc (j.2)
      first false o i = cc

      kept : (b.reading.comment && not (x.c == 10)) ≡ false → fate_at lines b x ≡ Keep → (part : Part) → b.reading.part ≡ part → (js : List ℕ) → Coming (past lines macros b x) xs ≡ Some js
          → (past lines macros b x).reading.part ≡ b.reading.part → length (past lines macros b x).reading.kept ≡ length b.reading.kept + 1
          → (o : Bool) → is_cut_by part b.reading.kept (kept_at_end lines macros b (x ∷ xs)) ≡ o → cond o js (kept_as part b.reading.kept x.c ∷ js) ≡ d ∷ ks → MayCome lines b.reading.part b.reading.kept d
      kept n e part p js i q k false c g = record { from = x.c; shown = shows Keep n e refl; is = cc (g, ap (λ (r : Part). kept_as r b.reading.kept x.c) p) }
      kept n e InText p js i q k true c g = absurd (true≢false (sym c))
      kept n e (InNotes line) p js i q k true c g =
          let less = leb-true _ _ c in
          let whole = all_is lines macros b x xs Keep e in
          let small : length (whole_of line (kept_at_end lines macros (past lines macros b x) xs)) ≤ length b.reading.kept = subst (λ (u : List ℕ). length (whole_of line u) ≤ length b.reading.kept) whole less in
          let m = cut_ends xs (past lines macros b x) line js (q ∙ p) (omega (arith, small, k)) i in
          let is_d : d ≡ m.mark = cc (g, m.is) in
          record {
            from = m.mark;
            shown = ap (λ (r : Part). is_shown (fate_by lines r b.reading.kept m.mark)) p ∙ ap is_shown (mark_ends lines line b.reading.kept m.mark (cut_outside b x xs line (d ∷ ks) p h c) m.marks);
            is = is_d ∙ ap (λ (r : Part). kept_as r b.reading.kept m.mark) (sym p);
          }

      by : Step lines b x (past lines macros b x) → MayCome lines b.reading.part b.reading.kept d
      by (comments e s) = may_same b (past lines macros b x) d s.part_is s.kept_is (later d ks (with_fate b x xs (d ∷ ks) Comment e h))
      by (leaves code n e s) = may_same b (past lines macros b x) d s.part_is s.kept_is (later d ks (with_fate b x xs (d ∷ ks) (LeaveOut code) e h))
      by (keeps n e s) =
          let j = map_is _ (Coming (past lines macros b x) xs) (d ∷ ks) (with_fate b x xs (d ∷ ks) Keep e h) in
          kept n e b.reading.part refl j.0 j.1 s.part_is (ap length s.kept_is ∙ length-append b.reading.kept (_ ∷ [])) (is_cut_by b.reading.part b.reading.kept (kept_at_end lines macros b (x ∷ xs))) refl j.2
      by (opens n e p s) =
          let j = map_is _ (Coming (past lines macros b x) xs) (d ∷ ks) (with_part b x xs (d ∷ ks) Ends InText p e h) in
          let is_40 : x.c ≡ 40 = text_ends (reverse (tokens b.reading.kept)) x.c (ap (λ (q : Part). fate_by lines q b.reading.kept x.c) (sym p) ∙ (sym (fate_here lines b x n) ∙ e)) in
          let f : d ≡ 40 = cc (j.2) in
          record { from = x.c; shown = shows Ends n e refl; is = f ∙ (sym (either (belongs (reverse (tokens b.reading.kept)) 40) 40) ∙ (ap (λ (c : ℕ). kept_as InText b.reading.kept c) (sym is_40) ∙ ap (λ (q : Part). kept_as q b.reading.kept x.c) (sym p))) }
      by (splits line n e p m s) = ends_here line n e p (first (x.c == 124) (Coming (past lines macros b x) xs) (with_part b x xs (d ∷ ks) Ends (InNotes line) p e h))
      by (closes line n e p m s) = ends_here line n e p (first (x.c == 124) (Coming (past lines macros b x) xs) (with_part b x xs (d ∷ ks) Ends (InNotes line) p e h))

  pub next_may : (xs : List Char) (b : BodyRead) → NextMay b xs
  next_may [] b = λ d ks h. absurd (by (makes_last limits head at_end ending b) d ks h)
    where
      by : (o : Bool) (d : ℕ) (ks : List ℕ) → cond o (Some []) None ≡ Some (d ∷ ks) → ⊥
      by true d ks h = cc
      by false d ks h = cc
  next_may (x ∷ xs) b = next_step b x xs (next_may xs (past lines macros b x))

-- ---- no blank is cut

keeps_viable : (split : Bool) (kept : List ℕ) (c : ℕ) → in_raw kept ≡ false → fate_in_notes split kept c ≡ Keep → is_viable (kept ++ c ∷ []) ≡ true
keeps_viable split kept c r h = by (in_raw kept) (c == 37) ((c == 41) || (split && (c == 124))) (is_viable (kept ++ c ∷ [])) r h
  where
    by : (raw percent mark viable : Bool) → raw ≡ false → cond raw Keep (cond percent Comment (cond mark Ends (cond viable Keep (LeaveOut (Some E1))))) ≡ Keep → viable ≡ true
    by true percent mark viable e f = absurd (true≢false e)
    by false true mark viable e f = absurd (cc)
    by false false true viable e f = absurd (cc)
    by false false false true e f = refl
    by false false false false e f = absurd (cc)

nabc_keeps_none : (kept : List ℕ) (c : ℕ) → is_blank c ≡ true → fate_in_nabc kept c ≡ Keep → ⊥
nabc_keeps_none kept c b h = by (c == 37) ((c == 41) || (c == 124)) (is_blank c) (nabc_text.is_viable (kept ++ c ∷ [])) b h
  where
    by : (percent mark blank viable : Bool) → blank ≡ true → cond percent Comment (cond mark Ends (cond blank (LeaveOut None) (cond viable Keep (LeaveOut (Some E3))))) ≡ Keep → ⊥
    by true mark blank viable e f = cc
    by false true blank viable e f = cc
    by false false true viable e f = cc
    by false false false viable e f = true≢false (sym e)

-- what is kept and then cut, outside raw, is no blank
pub cut_no_blank : (lines macros line : ℕ) (next : BodyRead) (xs : List Char) (kept : List ℕ) (c : ℕ) → fate_by lines (InNotes line) kept c ≡ Keep → is_raw_in line kept ≡ false
    → next.reading.kept ≡ kept ++ c ∷ [] → length (whole_of line (kept_at_end lines macros next xs)) ≤ length kept → is_blank c ≡ false
cut_no_blank lines macros line next xs kept c fate outside k short = none_holds (is_blank c) (λ b. by (line == 0) refl b fate outside)
  where
    by : (o : Bool) → (line == 0) ≡ o → is_blank c ≡ true → cond o (fate_in_notes (nat_lt 0 lines) kept c) (fate_in_nabc kept c) ≡ Keep → (o && in_raw kept) ≡ false → ⊥
    by true l b f r =
        let g = kept_on lines macros next xs in
        let front = longest_front next.reading.kept g.more (ap is_snippet k ∙ blank_snippet kept c b r (keeps_viable (nat_lt 0 lines) kept c r f)) in
        let is : whole_of line (kept_at_end lines macros next xs) ≡ whole_front gabc (next.reading.kept ++ g.more) = ap (whole_of line) g.is ∙ ap (λ (o : Bool). cond o (whole_front gabc (next.reading.kept ++ g.more)) (whole_front nabc (next.reading.kept ++ g.more))) l in
        let long = ap length is in
        let n = ap length k ∙ length-append kept (c ∷ []) in
        omega (arith, front, long, n, short)
    by false l b f r = nabc_keeps_none kept c b f
