-- The next character that is kept is none that is not.
use Rattle.std.proofs.Common.{◌≡◌, ℕ, Bool, true, false, true≢false, cond, ◌&&◌, ◌||◌, ◌==◌, List, [], ◌∷◌, ◌++◌, reverse, codes, Option, Some, None, nat_lt, refl, sym, ap, subst, ◌∙◌, arith}
use Rattle.std.proofs.lemmas.Bool.{and_parts, eqb-true}
use Rattle.gabc_places.specs.Fate.{Fate, Keep, Comment, Ends, LeaveOut}
use Rattle.gabc_places.specs.declared.code.Code.TheVariants.{E1, E2, W4}
use Rattle.gabc_patterns.specs.Derivative.{is_alive}
use Rattle.gabc_patterns.proofs.AutomatonsByTests.{reading_of}
use Rattle.gabc_text.specs.Token.{Token, tokens, is_blank, is_one_of}
use Rattle.gabc_text.specs.KeptText.{belongs, is_unmatched, ends_blank, fate_in_text, kept_char}
use Rattle.gabc_notes.specs.Table.{gabc}
use Rattle.gabc_notes.specs.KeptNotes.{is_viable, in_raw, fate_in_notes}
use Rattle.gabc_notes.specs.declared.state.ItemState.{ItemState}
use Rattle.gabc_notes.specs.declared.state.ItemState.TheVariants.{Start}
use Rattle.gabc_notes.proofs.by_kept.NotesViable.{viable_same}
use Rattle.gabc_notes.proofs.grammar.InsideRawIsAnOpenBracket.{on, walk_from, walk_append, walked}
use Rattle.gabc_notes.proofs.machine.MachineReadsTable.{machine}
use Rattle.gabc_nabc.specs.KeptNabc.{fate_in_nabc}
use Rattle.gabc_body.specs.Reading.{Part, InText, InNotes, fate_by, kept_as}
use Rattle.gabc_tree.specs.NotKept.{comes_next}

-- ---- blanks

pub blank_is : (P : ℕ → Type 0) → P 32 → P 9 → P 10 → (c : ℕ) → is_blank c ≡ true → P c
blank_is P space tab lf c = by (32 == c) refl (9 == c) refl (10 == c) refl
  where
    by : (s : Bool) → (32 == c) ≡ s → (t : Bool) → (9 == c) ≡ t → (l : Bool) → (10 == c) ≡ l → (s || (t || (l || false))) ≡ true → P c
    by true e t f l g h = subst P (eqb-true 32 c e) space
    by false e true f l g h = subst P (eqb-true 9 c f) tab
    by false e false f true g h = subst P (eqb-true 10 c g) lf
    by false e false f false g h = absurd (true≢false (sym h))

-- ---- the character is kept, or ends its part

abbrev pub is_shown : Fate → Bool
is_shown Keep = true
is_shown Ends = true
is_shown _ = false

pub clash : {A : Type 0} (o : Bool) → o ≡ true → o ≡ false → A
clash o h i = absurd (true≢false (sym h ∙ i))

or_false : (a b : Bool) → a ≡ false → b ≡ false → (a || b) ≡ false
or_false a b h i = ap (λ (o : Bool). o || b) h ∙ i

-- of two tests none holds
pub none_holds : (o : Bool) → (o ≡ true → ⊥) → o ≡ false
none_holds true h = absurd (h refl)
none_holds false h = refl

-- ---- texts

text_blank : (before : List Token) (c : ℕ) → is_blank c ≡ true → belongs before c ≡ false → fate_in_text before c ≡ cond (ends_blank before) (LeaveOut None) Keep
text_blank before =
    blank_is (λ (c : ℕ). belongs before c ≡ false → fate_in_text before c ≡ cond (ends_blank before) (LeaveOut None) Keep)
    (ap (λ (o : Bool). cond o Keep (cond (ends_blank before) (LeaveOut None) Keep)))
    (ap (λ (o : Bool). cond o Keep (cond (ends_blank before) (LeaveOut None) Keep)))
    (ap (λ (o : Bool). cond o Keep (cond (ends_blank before) (LeaveOut None) Keep)))

belongs_shown : (before : List Token) (c : ℕ) → belongs before c ≡ true → is_shown (fate_in_text before c) ≡ true
belongs_shown before c h = rw h refl

-- after a blank a blank is not kept, and else it is
after_blank : (before : List Token) (c : ℕ) → is_blank c ≡ true → is_shown (fate_in_text before c) ≡ false → ends_blank before ≡ true
after_blank before c h n = by (belongs before c) refl
  where
    ends_by : (e : Bool) → is_shown (cond e (LeaveOut None) Keep) ≡ false → e ≡ true
    ends_by true g = refl
    ends_by false g = absurd (true≢false g)

    by : (o : Bool) → belongs before c ≡ o → ends_blank before ≡ true
    by true e = clash (is_shown (fate_in_text before c)) (belongs_shown before c e) n
    by false e = ends_by (ends_blank before) (ap is_shown (sym (text_blank before c h e)) ∙ n)

no_blank_after : (before : List Token) (c : ℕ) → is_blank c ≡ true → belongs before c ≡ false → is_shown (fate_in_text before c) ≡ true → ends_blank before ≡ false
no_blank_after before c h e n = by (ends_blank before) (ap is_shown (sym (text_blank before c h e)) ∙ n)
  where
    by : (o : Bool) → is_shown (cond o (LeaveOut None) Keep) ≡ true → o ≡ false
    by true g = absurd (true≢false (sym g))
    by false g = refl

no_space_belongs : (before : List Token) → ends_blank before ≡ true → belongs before 32 ≡ false
no_space_belongs [] h = refl
no_space_belongs (k ∷ before) h = grind arith

text_next : (before : List Token) (c d : ℕ) → is_shown (fate_in_text before d) ≡ true → is_shown (fate_in_text before c) ≡ false
    → ((c == kept_char before d) || ((kept_char before d == 32) && is_blank c)) ≡ false
text_next before c d shown hidden = by (belongs before d) refl (is_blank d) refl
  where
    other : (c == d) ≡ false
    other = none_holds (c == d) (λ e. true≢false (sym shown ∙ (ap (λ (x : ℕ). is_shown (fate_in_text before x)) (sym (eqb-true c d e)) ∙ hidden)))

    no_space : (belongs before d ≡ true) → ((d == 32) && is_blank c) ≡ false
    no_space b = none_holds ((d == 32) && is_blank c) (λ e.
        let p = and_parts (d == 32) (is_blank c) e in
        true≢false (sym b ∙ (ap (belongs before) (eqb-true d 32 p.0) ∙ no_space_belongs before (after_blank before c p.1 hidden))))

    no_plain : is_blank d ≡ false → ((d == 32) && is_blank c) ≡ false
    no_plain b = none_holds ((d == 32) && is_blank c) (λ e. true≢false (ap is_blank (sym (eqb-true d 32 (and_parts (d == 32) (is_blank c) e).0)) ∙ b))

    no_blank : belongs before d ≡ false → is_blank d ≡ true → is_blank c ≡ false
    no_blank b e = none_holds (is_blank c) (λ f. true≢false (sym (after_blank before c f hidden) ∙ no_blank_after before d e b shown))

    no_space_here : belongs before d ≡ false → is_blank d ≡ true → (c == 32) ≡ false
    no_space_here b e = none_holds (c == 32) (λ f. true≢false (ap is_blank (sym (eqb-true c 32 f)) ∙ no_blank b e))

    by : (o : Bool) → belongs before d ≡ o → (p : Bool) → is_blank d ≡ p
        → ((c == cond o d (cond p 32 d)) || ((cond o d (cond p 32 d) == 32) && is_blank c)) ≡ false
    by true b p e = or_false (c == d) ((d == 32) && is_blank c) other (no_space b)
    by false b true e = or_false (c == 32) (is_blank c) (no_space_here b e) (no_blank b e)
    by false b false e = or_false (c == d) ((d == 32) && is_blank c) other (no_plain e)

pub text_ends : (before : List Token) (c : ℕ) → fate_in_text before c ≡ Ends → c ≡ 40
text_ends before c h = by (belongs before c) (c == 40) refl (c == 37) (is_one_of (codes ")]>") c) (is_unmatched before c) (is_blank c && ends_blank before) h
  where
    by : (b o : Bool) → (c == 40) ≡ o → (p s u e : Bool) → cond b Keep (cond o Ends (cond p Comment (cond s (LeaveOut (Some E2)) (cond u (LeaveOut (Some W4)) (cond e (LeaveOut None) Keep))))) ≡ Ends → c ≡ 40
    by true o f p s u e g = absurd (cc)
    by false true f p s u e g = eqb-true c 40 f
    by false false f true s u e g = absurd (cc)
    by false false f false true u e g = absurd (cc)
    by false false f false false true e g = absurd (cc)
    by false false f false false false true g = absurd (cc)
    by false false f false false false false g = absurd (cc)

-- ---- notes

viable_blank : (k : List ℕ) (c : ℕ) → is_blank c ≡ true → is_viable (k ++ c ∷ []) ≡ is_viable (k ++ 32 ∷ [])
viable_blank k = blank_is (λ (c : ℕ). is_viable (k ++ c ∷ []) ≡ is_viable (k ++ 32 ∷ [])) refl (same 9 (λ s. refl)) (same 10 (λ s. refl))
  where
    walks : (c : ℕ) → is_viable (k ++ c ∷ []) ≡ is_alive (reading_of gabc machine (walk_from (walk_from (Some Start) k) (c ∷ [])))
    walks c = viable_same (k ++ c ∷ []) ∙ (ap is_alive (walked (k ++ c ∷ [])) ∙ ap (λ (o : Option ItemState). is_alive (reading_of gabc machine o)) (walk_append (Some Start) k (c ∷ [])))

    from : (c : ℕ) → ((s : ItemState) → on s c ≡ on s 32) → (o : Option ItemState) → walk_from o (c ∷ []) ≡ walk_from o (32 ∷ [])
    from c f None = refl
    from c f (Some s) = f s

    same : (c : ℕ) → ((s : ItemState) → on s c ≡ on s 32) → is_viable (k ++ c ∷ []) ≡ is_viable (k ++ 32 ∷ [])
    same c f = walks c ∙ (ap (λ (o : Option ItemState). is_alive (reading_of gabc machine o)) (from c f (walk_from (Some Start) k)) ∙ sym (walks 32))

-- blanks of notes are kept alike
notes_blank : (split : Bool) (k : List ℕ) (c : ℕ) → is_blank c ≡ true → fate_in_notes split k c ≡ fate_in_notes split k 32
notes_blank split k c h = blank_is (λ (c : ℕ). is_viable (k ++ c ∷ []) ≡ is_viable (k ++ 32 ∷ []) → fate_in_notes split k c ≡ fate_in_notes split k 32) (λ e. refl) (tab split) (lf split) c h (viable_blank k c h)
  where
    by : (v w : Bool) → v ≡ w → cond (in_raw k) Keep (cond v Keep (LeaveOut (Some E1))) ≡ cond (in_raw k) Keep (cond w Keep (LeaveOut (Some E1)))
    by v w e = ap (λ (o : Bool). cond (in_raw k) Keep (cond o Keep (LeaveOut (Some E1)))) e

    tab : (split : Bool) → is_viable (k ++ 9 ∷ []) ≡ is_viable (k ++ 32 ∷ []) → fate_in_notes split k 9 ≡ fate_in_notes split k 32
    tab true e = by _ _ e
    tab false e = by _ _ e

    lf : (split : Bool) → is_viable (k ++ 10 ∷ []) ≡ is_viable (k ++ 32 ∷ []) → fate_in_notes split k 10 ≡ fate_in_notes split k 32
    lf true e = by _ _ e
    lf false e = by _ _ e

notes_next : (split : Bool) (k : List ℕ) (c d : ℕ) → is_shown (fate_in_notes split k d) ≡ true → is_shown (fate_in_notes split k c) ≡ false → ((c == d) || ((d == 32) && is_blank c)) ≡ false
notes_next split k c d shown hidden =
    or_false (c == d) ((d == 32) && is_blank c)
    (none_holds (c == d) (λ e. true≢false (sym shown ∙ (ap (λ (x : ℕ). is_shown (fate_in_notes split k x)) (sym (eqb-true c d e)) ∙ hidden))))
    (none_holds ((d == 32) && is_blank c) (λ e.
    let p = and_parts (d == 32) (is_blank c) e in
    true≢false (sym shown ∙ (ap (λ (x : ℕ). is_shown (fate_in_notes split k x)) (eqb-true d 32 p.0) ∙ (ap is_shown (sym (notes_blank split k c p.1)) ∙ hidden)))))

nabc_next : (k : List ℕ) (c d : ℕ) → is_shown (fate_in_nabc k d) ≡ true → is_shown (fate_in_nabc k c) ≡ false → ((c == d) || ((d == 32) && is_blank c)) ≡ false
nabc_next k c d shown hidden =
    or_false (c == d) ((d == 32) && is_blank c)
    (none_holds (c == d) (λ e. true≢false (sym shown ∙ (ap (λ (x : ℕ). is_shown (fate_in_nabc k x)) (sym (eqb-true c d e)) ∙ hidden))))
    (none_holds ((d == 32) && is_blank c) (λ e. true≢false (sym shown ∙ ap (λ (x : ℕ). is_shown (fate_in_nabc k x)) (eqb-true d 32 (and_parts (d == 32) (is_blank c) e).0))))

-- ---- a character that may come next

pub record MayCome (lines : ℕ) (part : Part) (kept : List ℕ) (d : ℕ) : Type 0 where
  pub from : ℕ
  pub shown : is_shown (fate_by lines part kept from) ≡ true
  pub is : d ≡ kept_as part kept from

pub not_next : (lines : ℕ) (part : Part) (kept : List ℕ) (c d : ℕ) (ks : List ℕ) → MayCome lines part kept d → is_shown (fate_by lines part kept c) ≡ false → comes_next (d ∷ ks) c ≡ false
not_next lines InText kept c d ks m h = ap (λ (e : ℕ). (c == e) || ((e == 32) && is_blank c)) m.is ∙ text_next (reverse (tokens kept)) c m.from m.shown h
not_next lines (InNotes line) kept c d ks m h = ap (λ (e : ℕ). (c == e) || ((e == 32) && is_blank c)) m.is ∙ by (line == 0) m.shown h
  where
    by : (o : Bool) → is_shown (cond o (fate_in_notes (nat_lt 0 lines) kept m.from) (fate_in_nabc kept m.from)) ≡ true
        → is_shown (cond o (fate_in_notes (nat_lt 0 lines) kept c) (fate_in_nabc kept c)) ≡ false → ((c == m.from) || ((m.from == 32) && is_blank c)) ≡ false
    by true f g = notes_next (nat_lt 0 lines) kept c m.from f g
    by false f g = nabc_next kept c m.from f g
