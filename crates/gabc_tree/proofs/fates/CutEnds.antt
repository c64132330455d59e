-- What is cut of a snippet stands before its mark, and is not inside raw.
use Rattle.std.proofs.Common.{◌≡◌, ℕ, ◌+◌, ◌≤◌, Bool, true, false, true≢false, cond, not, ◌&&◌, ◌||◌, ◌==◌, List, [], ◌∷◌, ◌++◌, length, length-append, take, codes, Option, Some, None, nat_le, nat_lt, refl, sym, ap, subst, ◌∙◌, arith}
use Rattle.std.specs.Option.{option_map_or}
use Rattle.std.proofs.lemmas.Bool.{and_parts, eqb-true, leb-true, leb-false}
use Rattle.std.proofs.lemmas.List.{length-take-le, take_at}
use Rattle.gabc_places.specs.Fate.{Keep, Comment, Ends, LeaveOut}
use Rattle.gabc_places.specs.declared.code.Code.TheVariants.{E1, E3}
use Rattle.gabc_patterns.specs.Derivative.{is_alive, is_whole}
use Rattle.gabc_patterns.proofs.AutomatonsByTests.{reading_of}
use Rattle.gabc_text.specs.Token.{is_blank}
use Rattle.gabc_notes.proofs.machine.MachineReadsTable.{machine}
use Rattle.gabc_patterns.specs.Pattern.{is_in}
use Rattle.gabc_patterns.specs.Reads.{is_read, longest, whole_front}
use Rattle.gabc_patterns.proofs.WholeFront.{Best, longest_is_best}
use Rattle.gabc_notes.specs.Table.{gabc}
use Rattle.gabc_notes.specs.KeptNotes.{is_snippet, is_viable, in_raw, fate_in_notes}
use Rattle.gabc_notes.specs.declared.state.ItemState.{ItemState}
use Rattle.gabc_notes.specs.declared.state.ItemState.TheVariants.{Start}
use Rattle.gabc_notes.proofs.by_kept.NotesViable.{raw_same, snippet_same, viable_same}
use Rattle.gabc_notes.proofs.grammar.InsideRawIsAnOpenBracket.{on, walk_from, walk_append, walked, is_raw, is_whole_state, raw_emitted, raw_stays}
use Rattle.gabc_nabc.specs.KeptNabc as nabc_text
use Rattle.gabc_nabc.specs.KeptNabc.{fate_in_nabc}
use Rattle.gabc_body.specs.Reading.{InNotes, fate_by}
use Rattle.gabc_tree.proofs.fates.NextKept.{blank_is, clash, none_holds}

-- ---- marks

abbrev pub is_mark : ℕ → ℕ → ℕ → Bool
is_mark lines line c = (c == 41) || (cond (line == 0) (nat_lt 0 lines) true && (c == 124))

abbrev pub is_raw_in : ℕ → List ℕ → Bool
is_raw_in line kept = (line == 0) && in_raw kept

pub ends_at_mark : (lines line : ℕ) (kept : List ℕ) (c : ℕ) → fate_by lines (InNotes line) kept c ≡ Ends → is_mark lines line c ≡ true
ends_at_mark lines line kept c = by (line == 0)
  where
    notes : (raw percent mark viable : Bool) → cond raw Keep (cond percent Comment (cond mark Ends (cond viable Keep (LeaveOut (Some E1))))) ≡ Ends → mark ≡ true
    notes true percent mark viable h = absurd (cc)
    notes false true mark viable h = absurd (cc)
    notes false false true viable h = refl
    notes false false false true h = absurd (cc)
    notes false false false false h = absurd (cc)

    signs : (percent mark blank viable : Bool) → cond percent Comment (cond mark Ends (cond blank (LeaveOut None) (cond viable Keep (LeaveOut (Some E3))))) ≡ Ends → mark ≡ true
    signs true mark blank viable h = absurd (cc)
    signs false true blank viable h = refl
    signs false false true viable h = absurd (cc)
    signs false false false true h = absurd (cc)
    signs false false false false h = absurd (cc)

    by : (o : Bool) → cond o (fate_in_notes (nat_lt 0 lines) kept c) (fate_in_nabc kept c) ≡ Ends → ((c == 41) || (cond o (nat_lt 0 lines) true && (c == 124))) ≡ true
    by true h = notes (in_raw kept) (c == 37) ((c == 41) || (nat_lt 0 lines && (c == 124))) (is_viable (kept ++ c ∷ [])) h
    by false h = signs (c == 37) ((c == 41) || (c == 124)) (is_in c (32 ∷ 9 ∷ 10 ∷ [])) (nabc_text.is_viable (kept ++ c ∷ [])) h

-- outside raw a mark ends the snippet
pub mark_ends : (lines line : ℕ) (kept : List ℕ) (c : ℕ) → is_raw_in line kept ≡ false → is_mark lines line c ≡ true → fate_by lines (InNotes line) kept c ≡ Ends
mark_ends lines line kept c = by (line == 0)
  where
    plain : (split : Bool) → ((c == 41) || (split && (c == 124))) ≡ true → (c == 37) ≡ false
    plain split h = none_holds (c == 37) (λ e. let n : c ≡ 37 = eqb-true c 37 e in true≢false (sym h ∙ (ap (λ (x : ℕ). (x == 41) || (split && (x == 124))) n ∙ never split)))
      where
        never : (split : Bool) → (split && false) ≡ false
        never true = refl
        never false = refl

    by : (o : Bool) → (o && in_raw kept) ≡ false → ((c == 41) || (cond o (nat_lt 0 lines) true && (c == 124))) ≡ true → cond o (fate_in_notes (nat_lt 0 lines) kept c) (fate_in_nabc kept c) ≡ Ends
    by true r h = rw (r, plain (nat_lt 0 lines) h, h) refl
    by false r h = rw (plain true h, h) refl

-- ---- raw

raw_goes : (k : List ℕ) (c : ℕ) → in_raw k ≡ true → (c == 93) ≡ false → in_raw (k ++ c ∷ []) ≡ true
raw_goes k c h n =
    raw_same (k ++ c ∷ []) ∙ (raw_emitted (k ++ c ∷ []) ∙ (ap is_raw (walk_append (Some Start) k (c ∷ []))
    ∙ go (walk_from (Some Start) k) (sym (raw_emitted k) ∙ (sym (raw_same k) ∙ h))))
  where
    go : (o : Option ItemState) → is_raw o ≡ true → is_raw (walk_from o (c ∷ [])) ≡ true
    go None e = absurd (cc)
    go (Some s) e = ap is_raw (raw_stays s c e n) ∙ e

-- a bracket that is open ends with an item
pub raw_closes : (k : List ℕ) (c : ℕ) → in_raw k ≡ true → in_raw (k ++ c ∷ []) ≡ false → is_snippet (k ++ c ∷ []) ≡ true
raw_closes k c h n = by (c == 93) refl
  where
    by : (o : Bool) → (c == 93) ≡ o → is_snippet (k ++ c ∷ []) ≡ true
    by true e = subst (λ (d : ℕ). is_snippet (k ++ d ∷ []) ≡ true) (sym (eqb-true c 93 e)) (and_parts (is_snippet (k ++ codes "]")) (not (is_snippet k)) h).0
    by false e = clash (in_raw (k ++ c ∷ [])) (raw_goes k c h e) n

-- ---- blanks

-- outside raw a blank that goes on ends an item
blank_ends : (s z : ItemState) → is_raw (Some s) ≡ false → on s 32 ≡ Some z → is_whole_state (Some z) ≡ true
blank_ends s z r e = grind arith

whole_walk : (o : Option ItemState) → is_whole (reading_of gabc machine o) ≡ is_whole_state o
whole_walk o = grind arith

alive_walk : (o : Option ItemState) → is_alive (reading_of gabc machine o) ≡ true → (z : ItemState) × (o ≡ Some z)
alive_walk None h = absurd (cc)
alive_walk (Some z) h = (z, refl)

same_walk : (c : ℕ) → is_blank c ≡ true → (o : Option ItemState) → walk_from o (c ∷ []) ≡ walk_from o (32 ∷ [])
same_walk = blank_is (λ (c : ℕ). (o : Option ItemState) → walk_from o (c ∷ []) ≡ walk_from o (32 ∷ [])) (λ o. refl) tab lf
  where
    tab : (o : Option ItemState) → walk_from o (9 ∷ []) ≡ walk_from o (32 ∷ [])
    tab None = refl
    tab (Some s) = refl

    lf : (o : Option ItemState) → walk_from o (10 ∷ []) ≡ walk_from o (32 ∷ [])
    lf None = refl
    lf (Some s) = refl

whole_after : (o : Option ItemState) (z : ItemState) → is_raw o ≡ false → walk_from o (32 ∷ []) ≡ Some z → is_whole_state (Some z) ≡ true
whole_after None z r e = absurd (cc)
whole_after (Some s) z r e = blank_ends s z r e

-- so what is kept with it is a snippet
pub blank_snippet : (k : List ℕ) (c : ℕ) → is_blank c ≡ true → in_raw k ≡ false → is_viable (k ++ c ∷ []) ≡ true → is_snippet (k ++ c ∷ []) ≡ true
blank_snippet k c b r v =
    let alive : is_alive (reading_of gabc machine (walk_from (Some Start) (k ++ c ∷ []))) ≡ true = sym (ap is_alive (walked (k ++ c ∷ []))) ∙ (sym (viable_same (k ++ c ∷ [])) ∙ v) in
    let z = alive_walk (walk_from (Some Start) (k ++ c ∷ [])) alive in
    let plain : is_raw (walk_from (Some Start) k) ≡ false = sym (raw_emitted k) ∙ (sym (raw_same k) ∙ r) in
    let last : walk_from (walk_from (Some Start) k) (32 ∷ []) ≡ Some z.0 = sym (same_walk c b (walk_from (Some Start) k)) ∙ (sym (walk_append (Some Start) k (c ∷ [])) ∙ z.1) in
    snippet_same (k ++ c ∷ []) ∙ (ap is_whole (walked (k ++ c ∷ [])) ∙ (whole_walk (walk_from (Some Start) (k ++ c ∷ [])) ∙ (ap is_whole_state z.1 ∙ whole_after (walk_from (Some Start) k) z.0 plain last)))

-- ---- the front that stays

pub longest_front : (p more : List ℕ) → is_snippet p ≡ true → length p ≤ length (whole_front gabc (p ++ more))
longest_front p more h = by (longest test (length t) t) (longest_is_best test t (length t))
  where
    t : List ℕ
    t = p ++ more

    test : List ℕ → Option Bool
    test front = cond (is_read gabc front) (Some true) None

    long : length p ≤ length (p ++ more)
    long = let l : length (p ++ more) ≡ length p + length more = length-append p more in omega (arith, l)

    here : cond (is_read gabc (take (length p) (p ++ more))) (Some true) None ≡ Some true
    here = ap (λ (u : List ℕ). cond (is_read gabc u) (Some true) None) (take_at p more (length p) refl) ∙ ap (λ (o : Bool). cond o (Some true) None) h

    by : (o : Option (Bool × ℕ)) → Best (λ (front : List ℕ). cond (is_read gabc front) (Some true) None) (p ++ more) (length (p ++ more)) o
        → length p ≤ length (option_map_or (λ (i : Bool × ℕ). take i.1 (p ++ more)) o [])
    by None f = none p here long f
      where
        none : (q : List ℕ) → cond (is_read gabc (take (length q) (p ++ more))) (Some true) None ≡ Some true → length q ≤ length (p ++ more)
            → ((m : ℕ) → 1 ≤ m → m ≤ length (p ++ more) → cond (is_read gabc (take m (p ++ more))) (Some true) None ≡ None) → length q ≤ 0
        none [] e l f = omega arith
        none (c ∷ q) e l f = absurd (let g = f (length (c ∷ q)) (omega arith) l in cc (e, g))
    by (Some i) f = let n : length (take i.1 (p ++ more)) ≡ i.1 = length-take-le i.1 (p ++ more) f.1 in shorter (nat_le (length p) i.1) refl n
      where
        shorter : (o : Bool) → nat_le (length p) i.1 ≡ o → length (take i.1 (p ++ more)) ≡ i.1 → length p ≤ length (take i.1 (p ++ more))
        shorter true e n = let l = leb-true (length p) i.1 e in omega (arith, l, n)
        shorter false e n = absurd (let l = leb-false (length p) i.1 e in let g = f.3 (length p) (omega (arith, l)) long in cc (here, g))
