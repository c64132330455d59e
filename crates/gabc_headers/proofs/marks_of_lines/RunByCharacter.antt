-- What a line's start says of a mark, one character after the other.
use Rattle.std.proofs.Common.{◌≡◌, ℕ, ◌+◌, ◌≤◌, suc, zero, List, [], ◌∷◌, ◌++◌, length, Bool, true, false, ◌==◌, refl, sym, ap, ◌∙◌, subst, arith, append_assoc, append-nil, length-append}
use Rattle.std.proofs.lemmas.Bool.{and_parts}
use Rattle.gabc_headers.specs.Lines.{mark_end, run_len, is_blank, is_bare, is_mark, has_mark, before_mark, ends_no_value, is_blank_or_lf, trim_end, trim_start, trim_value}
use Rattle.gabc_headers.specs.declared.characters.Run.{Run}
use Rattle.gabc_headers.specs.declared.characters.Run.TheVariants.{Text, Short, Enough, Spaced}
use Rattle.gabc_headers.specs.declared.characters.HeaderChar.TheVariants.{Semicolon, Blank}
use Rattle.gabc_headers.specs.machine.Characters.{is_mark_run, next_run}
use Rattle.gabc_headers.proofs.machines.TrimAsLoop.{all_out, trim_end-all_out}
use Rattle.gabc_headers.proofs.marks_of_lines.PrefixOfMark.{semis, all_blank, Passed, pass_none, pass_one, pass_more, mark_here, blank_not, bare_blanks, blanks_push, semis_more, pass_semis, pass_blanks, semis_mark, run_semis, run_blanks}

-- the number of `;` that a mark wants
abbrev pub wanted : Bool → ℕ
wanted true = 2
wanted false = 1

-- the prefix ends in n `;` and then the blanks b
abbrev pub Shape : Bool → Run → ℕ → List ℕ → Type 0
Shape long Text n b = (n ≡ 0) × (b ≡ [])
Shape long Short n b = (long ≡ true) × (n ≡ 1) × (b ≡ [])
Shape long Enough n b = (wanted long ≤ n) × (1 ≤ n) × (b ≡ [])
Shape long Spaced n b = (wanted long ≤ n) × (1 ≤ n) × (all_blank b ≡ true) × (x : ℕ) × (d : List ℕ) × (b ≡ x ∷ d)

-- the prefix p of a line ends in a run like this
pub record RunOf (long : Bool) (run : Run) (p : List ℕ) : Type 0 where
  pub prefix : List ℕ
  pub count : ℕ
  pub blanks : List ℕ
  pub split : p ≡ prefix ++ (semis count ++ blanks)
  pub shape : Shape long run count blanks
  -- no mark begins in the prefix
  pub passed : (l : List ℕ) → Passed (wanted long) prefix (semis count ++ (blanks ++ l))

-- nothing is read
pub begin_run : (long : Bool) → RunOf long Text []
begin_run long = record { prefix = []; count = 0; blanks = []; split = refl; shape = (refl, refl); passed = λ l. pass_none (wanted long) l }

-- all of p is passed
pub text_run : (long : Bool) (p : List ℕ) → ((l : List ℕ) → Passed (wanted long) p l) → RunOf long Text p
text_run long p h = record { prefix = p; count = 0; blanks = []; split = sym (append-nil p); shape = (refl, refl); passed = h }

-- p, and after it a `;` that begins a run
one_semi : (long : Bool) (p : List ℕ) → ((l : List ℕ) → Passed (wanted long) p (59 ∷ l)) → (run : Run) → Shape long run 1 [] → RunOf long run (p ++ 59 ∷ [])
one_semi long p h run s = record { prefix = p; count = 1; blanks = []; split = refl; shape = s; passed = λ l. h l }

-- what follows goes after the last part
tail : (p q t l : List ℕ) → p ≡ q ++ t → p ++ l ≡ q ++ (t ++ l)
tail p q t l e = ap (λ (x : List ℕ). x ++ l) e ∙ append_assoc q t l

-- and after two parts
tail2 : (p q t u l : List ℕ) → p ≡ q ++ (t ++ u) → p ++ l ≡ q ++ (t ++ (u ++ l))
tail2 p q t u l e = tail p q (t ++ u) l e ∙ ap (λ (x : List ℕ). q ++ x) (append_assoc t u l)

-- ---- a `;`

module _ (long : Bool) (p : List ℕ) where
  -- a `;` after a run that is enough
  more_semis : (h : RunOf long Enough p) → RunOf long Enough (p ++ 59 ∷ [])
  more_semis h =
      let s = h.shape in
      record {
        prefix = h.prefix;
        count = suc h.count;
        blanks = [];
        split = tail p h.prefix (semis h.count ++ h.blanks) (59 ∷ []) h.split
            ∙ ap (λ (x : List ℕ). h.prefix ++ x) (append_assoc (semis h.count) h.blanks (59 ∷ []) ∙ (ap (λ (x : List ℕ). semis h.count ++ (x ++ 59 ∷ [])) s.2 ∙ (semis_more h.count [])));
        shape = ((let a = s.0 in omega arith), (omega arith), refl);
        passed = λ l. subst (λ (x : List ℕ). Passed (wanted long) h.prefix x)
            (ap (λ (x : List ℕ). semis h.count ++ (x ++ 59 ∷ l)) s.2 ∙ semis_more h.count l) (h.passed (59 ∷ l));
      }

  -- a `;` after a run that is too short
  short_semis : (h : RunOf long Short p) → RunOf long Enough (p ++ 59 ∷ [])
  short_semis h = grind (arith, tail, append_assoc)

  -- all of p, if no mark can begin in it
  all_passed : (run : Run) (h : RunOf long run p) (l : List ℕ) → Passed (wanted long) (semis h.count ++ h.blanks) l → Passed (wanted long) p l
  all_passed run h l a = grind (arith, pass_more, append_assoc)

  -- without a run all is passed
  text_passed : (h : RunOf long Text p) (l : List ℕ) → Passed (wanted long) p l
  text_passed h l =
      let s = h.shape in
      all_passed Text h l (subst (λ (x : List ℕ). Passed (wanted long) x l) (sym (ap (λ (n : ℕ). semis n ++ h.blanks) s.0 ∙ s.1)) (pass_none (wanted long) l))

  -- a run that is too short is passed by another character
  short_passed : (h : RunOf long Short p) (c : ℕ) (l : List ℕ) → (c == 59) ≡ false → Passed (wanted long) p (c ∷ l)
  short_passed h c l e =
      let s = h.shape in
      all_passed Short h (c ∷ l) (subst (λ (x : List ℕ). Passed (wanted long) x (c ∷ l)) (sym (ap (λ (n : ℕ). semis n ++ h.blanks) s.1 ∙ ap (λ (b : List ℕ). 59 ∷ b) s.2))
      (pass_one (wanted long) 59 (c ∷ l) (ap (λ (b : Bool). is_mark (wanted b) (59 ∷ c ∷ l)) s.0 ∙ rw (e) refl)))

  -- so is one that is enough, where no mark is made
  enough_passed : (h : RunOf long Enough p) (c : ℕ) (l : List ℕ) → is_bare (c ∷ l) ≡ false → (c == 59) ≡ false → Passed (wanted long) p (c ∷ l)
  enough_passed h c l b e =
      let s = h.shape in
      all_passed Enough h (c ∷ l) (subst (λ (x : List ℕ). Passed (wanted long) x (c ∷ l)) (sym (ap (λ (x : List ℕ). semis h.count ++ x) s.2 ∙ append-nil (semis h.count)))
      (pass_semis (wanted long) h.count c l b e))

  -- and one with blanks
  spaced_passed : (h : RunOf long Spaced p) (c : ℕ) (l : List ℕ) → is_bare (c ∷ l) ≡ false → Passed (wanted long) p (c ∷ l)
  spaced_passed h c l b =
      let s = h.shape in
      let e : h.blanks ++ c ∷ l ≡ s.3 ∷ (s.4 ++ c ∷ l) = ap (λ (x : List ℕ). x ++ c ∷ l) s.5 in
      let a : all_blank (s.3 ∷ s.4) ≡ true = ap all_blank (sym s.5) ∙ s.2 in
      let f : is_bare (s.3 ∷ (s.4 ++ c ∷ l)) ≡ false = ap is_bare (sym e) ∙ (bare_blanks h.blanks (c ∷ l) s.2 ∙ b) in
      let g : (s.3 == 59) ≡ false = blank_not s.3 59 (and_parts (is_blank s.3) (all_blank s.4) a).0 (omega arith) (omega arith) in
      all_passed Spaced h (c ∷ l) (pass_more (wanted long) (semis h.count) h.blanks (c ∷ l)
      (subst (λ (x : List ℕ). Passed (wanted long) (semis h.count) x) (sym e) (pass_semis (wanted long) h.count s.3 (s.4 ++ c ∷ l) f g))
      (pass_blanks (wanted long) h.blanks (c ∷ l) s.2))

  -- ---- another character after which the line has begun no run

  -- a character that is passed
  passed_on : (c : ℕ) → ((l : List ℕ) → Passed (wanted long) p (c ∷ l)) → (c == 59) ≡ false → RunOf long Text (p ++ c ∷ [])
  passed_on c h e = grind (arith, text_run, pass_more, pass_one)

  -- a `;` that begins a run
  first_semi : (run : Run) → Shape long run 1 [] → ((l : List ℕ) → Passed (wanted long) p (59 ∷ l)) → RunOf long run (p ++ 59 ∷ [])
  first_semi run s h = one_semi long p h run s

  -- a blank after a run
  enough_blank : (h : RunOf long Enough p) (c : ℕ) → is_blank c ≡ true → RunOf long Spaced (p ++ c ∷ [])
  enough_blank h c e =
      let s = h.shape in
      record {
        prefix = h.prefix;
        count = h.count;
        blanks = c ∷ [];
        split = tail2 p h.prefix (semis h.count) h.blanks (c ∷ []) h.split ∙ ap (λ (x : List ℕ). h.prefix ++ (semis h.count ++ (x ++ c ∷ []))) s.2;
        shape = (s.0, s.1, (rw (e) refl), c, [], refl);
        passed = λ l. subst (λ (x : List ℕ). Passed (wanted long) h.prefix (semis h.count ++ (x ++ c ∷ l))) s.2 (h.passed (c ∷ l));
      }

  -- a blank after blanks
  spaced_blank : (h : RunOf long Spaced p) (c : ℕ) → is_blank c ≡ true → RunOf long Spaced (p ++ c ∷ [])
  spaced_blank h c e = grind (arith, tail2, blanks_push, append_assoc)

-- ---- the table

-- a `;`
pub run_semi : (long : Bool) (run : Run) (p : List ℕ) → RunOf long run p → RunOf long (next_run run long Semicolon) (p ++ 59 ∷ [])
run_semi true Text p h = first_semi true p Short (refl, refl, refl) (λ l. text_passed true p h (59 ∷ l))
run_semi false Text p h = first_semi false p Enough (omega arith, omega arith, refl) (λ l. text_passed false p h (59 ∷ l))
run_semi true Spaced p h = first_semi true p Short (refl, refl, refl) (λ l. spaced_passed true p h 59 l refl)
run_semi false Spaced p h = first_semi false p Enough (omega arith, omega arith, refl) (λ l. spaced_passed false p h 59 l refl)
run_semi long Short p h = short_semis long p h
run_semi long Enough p h = more_semis long p h

-- a character that is no `;` and makes no mark
pub run_other : (long : Bool) (run : Run) (p : List ℕ) (c : ℕ) → (c == 59) ≡ false → (is_mark_run run ≡ true → (l : List ℕ) → is_bare (c ∷ l) ≡ false) → RunOf long run p
    → RunOf long Text (p ++ c ∷ [])
run_other long Text p c e b h = passed_on long p c (λ l. text_passed long p h (c ∷ l)) e
run_other long Short p c e b h = passed_on long p c (λ l. short_passed long p h c l e) e
run_other long Enough p c e b h = passed_on long p c (λ l. enough_passed long p h c l (b refl l) e) e
run_other long Spaced p c e b h = passed_on long p c (λ l. spaced_passed long p h c l (b refl l)) e

-- a blank
pub run_blank : (long : Bool) (run : Run) (p : List ℕ) (c : ℕ) → is_blank c ≡ true → RunOf long run p → RunOf long (next_run run long Blank) (p ++ c ∷ [])
run_blank long run p c e h = grind (arith, run_other, blank_not, enough_blank, spaced_blank)

-- ---- the line's end, or a `%`

-- the prefix and what follows make a mark, and the value is that of the prefix as it stands
pub record Closed (long : Bool) (p l : List ℕ) : Type 0 where
  pub has : has_mark (wanted long) (p ++ l) ≡ true
  pub end : mark_end (wanted long) (p ++ l) ≡ length p + run_len l
  pub value : (s : List ℕ) → trim_value (s ++ before_mark (wanted long) (p ++ l)) ≡ trim_value (s ++ p)

-- a run and its blanks belong to no value
out_semis : (n : ℕ) (b : List ℕ) → all_blank b ≡ true → all_out ends_no_value (semis n ++ b) ≡ true
out_semis zero [] h = refl
out_semis zero (c ∷ b) h = let g = and_parts (is_blank c) (all_blank b) h in rw (g.0) (out_semis zero b g.1)
out_semis (suc n) b h = out_semis n b h

-- a run that is enough is a mark where what follows is bare
close : (long : Bool) (run : Run) (p l : List ℕ) (h : RunOf long run p) → wanted long ≤ h.count → 1 ≤ h.count → all_blank h.blanks ≡ true → is_bare l ≡ true → Closed long p l
close long run p l h i j a b =
    let t : p ++ l ≡ h.prefix ++ (semis h.count ++ (h.blanks ++ l)) = tail2 p h.prefix (semis h.count) h.blanks l h.split in
    let f : is_bare (h.blanks ++ l) ≡ true = bare_blanks h.blanks l a ∙ b in
    let m = mark_here (wanted long) h.prefix (semis h.count ++ (h.blanks ++ l)) (h.passed l) (semis_mark (wanted long) h.count (h.blanks ++ l) i j f) in
    record {
      has = ap (has_mark (wanted long)) t ∙ m.has;
      end = ap (mark_end (wanted long)) t ∙ (m.end ∙ (
          let x = run_semis h.count (h.blanks ++ l) in
          let y = run_blanks h.blanks l a in
          let z = ap length h.split in
          let u = length-append h.prefix (semis h.count ++ h.blanks) in
          let v = length-append (semis h.count) h.blanks in
          let w = length_semis h.count in
          omega arith));
      value = λ s. ap (λ (x : List ℕ). trim_value (s ++ x)) (ap (before_mark (wanted long)) t ∙ m.before)
          ∙ ap (trim_start is_blank_or_lf) (sym (ap (trim_end ends_no_value) (ap (λ (x : List ℕ). s ++ x) h.split ∙ sym (append_assoc s h.prefix (semis h.count ++ h.blanks)))
          ∙ trim_end-all_out ends_no_value (s ++ h.prefix) (semis h.count ++ h.blanks) (out_semis h.count h.blanks a)));
    }
  where
    length_semis : (n : ℕ) → length (semis n) ≡ n
    length_semis zero = refl
    length_semis (suc n) = ap suc (length_semis n)

-- so is the run that the machine takes for one
pub run_closes : (long : Bool) (run : Run) (p l : List ℕ) → RunOf long run p → is_mark_run run ≡ true → is_bare l ≡ true → Closed long p l
run_closes long Enough p l h e b = let s = h.shape in close long Enough p l h s.0 s.1 (ap all_blank s.2) b
run_closes long Spaced p l h e b = let s = h.shape in close long Spaced p l h s.0 s.1 s.2 b
run_closes long _ p l h e b = absurd (cc)

-- at the end, the run that it takes for none is none
pub run_open : (long : Bool) (run : Run) (p : List ℕ) → RunOf long run p → is_mark_run run ≡ false → has_mark (wanted long) p ≡ false
run_open long run p h e = grind (arith, append-nil, text_passed)
