-- One step of the machine, by the kind of the character; and the end of the text.
use Rattle.std.proofs.Common.{◌≡◌, ℕ, ◌+◌, List, [], ◌∷◌, ◌++◌, drop, Bool, true, false, cond, ◌&&◌, ◌==◌, ◌≢◌, Option, None, refl, sym, ap, ◌∙◌, subst, arith, append-nil, slice_range}
use Rattle.std.proofs.lemmas.Bool.Decides.{nat_tests}
use Rattle.std.proofs.lemmas.Bool.{eqb-true}
use Rattle.gabc_headers.specs.Lines.{is_blank, is_bare}
use Rattle.gabc_headers.specs.Parts.{HeaderPart, is_good_name}
use Rattle.gabc_headers.specs.declared.characters.Run.{Run}
use Rattle.gabc_headers.specs.declared.characters.Run.TheVariants.{Text}
use Rattle.gabc_headers.specs.declared.characters.HeaderChar.{HeaderChar}
use Rattle.gabc_headers.specs.declared.characters.HeaderChar.TheVariants.{Semicolon, Percent, Blank, LineEnd, Colon, Other}
use Rattle.gabc_headers.specs.declared.part_machine.PartState.{PartState}
use Rattle.gabc_headers.specs.declared.part_machine.PartState.TheVariants.{Name, Skip, Value}
use Rattle.gabc_headers.specs.declared.events.HeaderEvent.{HeaderEvent}
use Rattle.gabc_headers.specs.declared.part_machine.PartMachine.{PartMachine}
use Rattle.gabc_headers.specs.machine.Characters.{header_char_of, next_run, is_mark_run}
use Rattle.gabc_headers.specs.machine.PartMachine.{at_line_start, event_at_end, with_trim, in_value, step_in, next_part_machine, open_in, name_step, value_step, next_trim}
use Rattle.gabc_headers.specs.machine.Events.{open_part}
use Rattle.gabc_headers.proofs.machines.EventsAreParts.{seen, last_in}
use Rattle.gabc_headers.proofs.marks_of_lines.RunByCharacter.{run_semi, run_other, run_blank}
use Rattle.gabc_headers.proofs.machines.PartsAfterState.{InName, InSkip, InValue, StandsIn, skip_more, skip_line, name_more, name_line, name_percent, name_colon, value_more, value_line, value_ends, value_percent, end_name, end_marked, end_open}

-- ---- kinds

-- what the kind says of the character
pub data IsKind (c : ℕ) : HeaderChar → Type 0 where
  semi : c ≡ 59 → IsKind c Semicolon
  percent : c ≡ 37 → IsKind c Percent
  blank : is_blank c ≡ true → (c == 10) ≡ false → (c == 58) ≡ false → (c == 37) ≡ false → (c == 59) ≡ false → IsKind c Blank
  line : c ≡ 10 → IsKind c LineEnd
  colon : c ≡ 58 → IsKind c Colon
  other : is_blank c ≡ false → (c == 10) ≡ false → (c == 58) ≡ false → (c == 37) ≡ false → (c == 59) ≡ false → IsKind c Other

-- the kind of each character says so
pub is_kind : (c : ℕ) → IsKind c (header_char_of c)
is_kind c = on59 (c == 59) refl
  where
    apart : (d n : ℕ) → (c == d) ≡ true → d ≢ n → (c == n) ≡ false
    apart d n e f = grind (arith, nat_tests)

    on58 : (b : Bool) → (c == 58) ≡ b → (c == 10) ≡ false → (c == 9) ≡ false → (c == 32) ≡ false → (c == 37) ≡ false → (c == 59) ≡ false → IsKind c (cond b Colon Other)
    on58 true e a f g h i = colon (eqb-true c 58 e)
    on58 false e a f g h i = other (rw (g, f) refl) a e h i

    on10 : (b : Bool) → (c == 10) ≡ b → (c == 9) ≡ false → (c == 32) ≡ false → (c == 37) ≡ false → (c == 59) ≡ false → IsKind c (cond b LineEnd (cond (c == 58) Colon Other))
    on10 true e f g h i = line (eqb-true c 10 e)
    on10 false e f g h i = on58 (c == 58) refl e f g h i

    on9 : (b : Bool) → (c == 9) ≡ b → (c == 32) ≡ false → (c == 37) ≡ false → (c == 59) ≡ false → IsKind c (cond b Blank (cond (c == 10) LineEnd (cond (c == 58) Colon Other)))
    on9 true e g h i = blank (rw (g, e) refl) (apart 9 10 e (omega arith)) (apart 9 58 e (omega arith)) h i
    on9 false e g h i = on10 (c == 10) refl e g h i

    on32 : (b : Bool) → (c == 32) ≡ b → (c == 37) ≡ false → (c == 59) ≡ false → IsKind c (cond b Blank (cond (c == 9) Blank (cond (c == 10) LineEnd (cond (c == 58) Colon Other))))
    on32 true e h i = blank (rw (e) refl) (apart 32 10 e (omega arith)) (apart 32 58 e (omega arith)) h i
    on32 false e h i = on9 (c == 9) refl e h i

    on37 : (b : Bool) → (c == 37) ≡ b → (c == 59) ≡ false → IsKind c (cond b Percent (cond (c == 32) Blank (cond (c == 9) Blank (cond (c == 10) LineEnd (cond (c == 58) Colon Other)))))
    on37 true e i = percent (eqb-true c 37 e)
    on37 false e i = on32 (c == 32) refl e i

    on59 : (b : Bool) → (c == 59) ≡ b → IsKind c (cond b Semicolon (cond (c == 37) Percent (cond (c == 32) Blank (cond (c == 9) Blank (cond (c == 10) LineEnd (cond (c == 58) Colon Other))))))
    on59 true e = semi (eqb-true c 59 e)
    on59 false e = on37 (c == 37) refl e

-- ---- a step

module _ (all : List HeaderPart) (text : List ℕ) where
  -- the machine in state st, as it stands after a step
  abbrev pub After : List ℕ → ℕ → List HeaderPart → PartMachine × Option HeaderEvent → Type 0
  After r i done s = StandsIn all text s.0.state r i s.0 (done ++ seen text s.1)

  -- a step that emits nothing
  same : (r : List ℕ) (i : ℕ) (done : List HeaderPart) (rd : PartMachine) → StandsIn all text rd.state r i rd done → After r i done (rd, None)
  same r i done rd h = subst (λ (x : List HeaderPart). StandsIn all text rd.state r i rd x) (sym (append-nil done)) h

  -- nothing is bare after another character
  false_both : (a : Bool) (y : Bool) → (a && false) ≡ ((a && false) && y)
  false_both a y = grind arith

  -- a blank changes nothing of what is bare
  true_both : (a y z : Bool) → y ≡ z → (a && y) ≡ ((a && true) && z)
  true_both a y z e = grind arith

  -- a step in a name
  in_name : (k : HeaderChar) (c : ℕ) (r : List ℕ) (i : ℕ) (rd : PartMachine) (done : List HeaderPart) (good : Bool) → IsKind c k → rd.state ≡ Name → drop (i + 1) text ≡ r
      → (k ≡ Colon → good ≡ is_good_name (slice_range text rd.trim.from rd.trim.to))
      → InName all text (c ∷ r) i rd done → After r (i + 1) done (name_step rd k i (i + 1) good)
  in_name Semicolon c r i rd done good (semi e) s d g h =
      same r (i + 1) done (with_trim rd (i + 1) false false) (subst (λ (x : PartState). StandsIn all text x r (i + 1) (with_trim rd (i + 1) false false) done) (sym s)
      (name_more all text 59 r i rd done false refl refl refl (λ x. false_both rd.trim.leading (is_bare x)) (subst (λ (x : ℕ). InName all text (x ∷ r) i rd done) e h)))
  in_name Percent c r i rd done good (percent e) s d g h = by rd.trim.leading refl
    where
      by : (b : Bool) → rd.trim.leading ≡ b → After r (i + 1) done (cond b (record rd { state = Skip }) (with_trim rd (i + 1) false false), None)
      by true f = same r (i + 1) done (record rd { state = Skip }) (name_percent all text r i rd done f (subst (λ (x : ℕ). InName all text (x ∷ r) i rd done) e h))
      by false f = same r (i + 1) done (with_trim rd (i + 1) false false) (subst (λ (x : PartState). StandsIn all text x r (i + 1) (with_trim rd (i + 1) false false) done) (sym s)
          (name_more all text 37 r i rd done false refl refl refl (λ x. ap (λ (b : Bool). b && true) f ∙ sym (ap (λ (b : Bool). (b && false) && is_bare x) f)) (subst (λ (x : ℕ). InName all text (x ∷ r) i rd done) e h)))
  in_name Blank c r i rd done good (blank e n10 n58 n37 n59) s d g h =
      same r (i + 1) done (with_trim rd (i + 1) true true) (subst (λ (x : PartState). StandsIn all text x r (i + 1) (with_trim rd (i + 1) true true) done) (sym s)
      (name_more all text c r i rd done true n10 n58 e (λ x. true_both rd.trim.leading (is_bare (c ∷ x)) (is_bare x) (rw (n37, e) refl)) h))
  in_name LineEnd c r i rd done good (line e) s d g h = name_line all text r i rd done d (subst (λ (x : ℕ). InName all text (x ∷ r) i rd done) e h)
  in_name Colon c r i rd done good (colon e) s d g h = name_colon all text r i rd done good d (g refl) (subst (λ (x : ℕ). InName all text (x ∷ r) i rd done) e h)
  in_name Other c r i rd done good (other b n10 n58 n37 n59) s d g h =
      same r (i + 1) done (with_trim rd (i + 1) false false) (subst (λ (x : PartState). StandsIn all text x r (i + 1) (with_trim rd (i + 1) false false) done) (sym s)
      (name_more all text c r i rd done false n10 n58 b (λ x. ap (λ (y : Bool). rd.trim.leading && y) (rw (n37, b) refl) ∙ false_both rd.trim.leading (is_bare x)) h))

  -- a step in a line that is skipped
  in_skip : (k : HeaderChar) (c : ℕ) (r : List ℕ) (i : ℕ) (rd : PartMachine) (done : List HeaderPart) (good : Bool) → IsKind c k → rd.state ≡ Skip → drop (i + 1) text ≡ r
      → InSkip all text (c ∷ r) i rd done → After r (i + 1) done (step_in Skip rd k i (i + 1) good)
  in_skip k c r i rd done good q s d h = by k q
    where
      on : (c == 10) ≡ false → After r (i + 1) done (rd, None)
      on e = same r (i + 1) done rd (subst (λ (x : PartState). StandsIn all text x r (i + 1) rd done) (sym s) (skip_more all text c r i rd done e h))

      at : (d : ℕ) → c ≡ d → (d == 10) ≡ false → (c == 10) ≡ false
      at d e f = rw (e) f

      by : (k : HeaderChar) → IsKind c k → After r (i + 1) done (step_in Skip rd k i (i + 1) good)
      by Semicolon (semi e) = on (at 59 e refl)
      by Percent (percent e) = on (at 37 e refl)
      by Blank (blank e n10 n58 n37 n59) = on n10
      by LineEnd (line e) = same r (i + 1) done (at_line_start (rd.line + 1) (i + 1)) (skip_line all text r i rd done d (subst (λ (x : ℕ). InSkip all text (x ∷ r) i rd done) e h))
      by Colon (colon e) = on (at 58 e refl)
      by Other (other b n10 n58 n37 n59) = on n10

  -- a step in a value
  in_value_of : (k : HeaderChar) (long : Bool) (run : Run) (c : ℕ) (r : List ℕ) (i : ℕ) (rd : PartMachine) (done : List HeaderPart) → IsKind c k → drop (i + 1) text ≡ r
      → InValue all text long run (c ∷ r) i rd done → After r (i + 1) done (value_step rd long run k i (i + 1))
  in_value_of Semicolon long run c r i rd done (semi e) d h =
      same r (i + 1) done (in_value rd long (next_run run long Semicolon) (i + 1) false true)
      (value_more all text long run (next_run run long Semicolon) 59 r i rd done false true refl refl refl (λ p x. run_semi long run p x) (subst (λ (x : ℕ). InValue all text long run (x ∷ r) i rd done) e h))
  in_value_of Percent long run c r i rd done (percent e) d h = by (is_mark_run run) refl
    where
      by : (b : Bool) → is_mark_run run ≡ b → After r (i + 1) done (cond b (record rd { state = Skip }, event_at_end rd i) (in_value rd long Text (i + 1) false false, None))
      by true f = value_percent all text long run r i rd done f (subst (λ (x : ℕ). InValue all text long run (x ∷ r) i rd done) e h)
      by false f = same r (i + 1) done (in_value rd long Text (i + 1) false false)
          (value_more all text long run Text 37 r i rd done false false refl refl refl (λ p x. run_other long run p 37 refl (λ g. absurd (cc)) x) (subst (λ (x : ℕ). InValue all text long run (x ∷ r) i rd done) e h))
  in_value_of Blank long run c r i rd done (blank e n10 n58 n37 n59) d h =
      same r (i + 1) done (in_value rd long (next_run run long Blank) (i + 1) true true)
      (value_more all text long run (next_run run long Blank) c r i rd done true true n10 (rw (e) refl) (rw (e) refl) (λ p x. run_blank long run p c e x) h)
  in_value_of LineEnd long run c r i rd done (line e) d h = by (is_mark_run run) refl
    where
      by : (b : Bool) → is_mark_run run ≡ b → After r (i + 1) done (cond b (at_line_start (rd.line + 1) (i + 1), event_at_end rd i)
          (record rd { state = Value true Text; line = rd.line + 1; trim = next_trim rd.trim (i + 1) true true }, None))
      by true f = value_ends all text long run r i rd done d f (subst (λ (x : ℕ). InValue all text long run (x ∷ r) i rd done) e h)
      by false f = same r (i + 1) done (record rd { state = Value true Text; line = rd.line + 1; trim = next_trim rd.trim (i + 1) true true })
          (value_line all text long run r i rd done f (subst (λ (x : ℕ). InValue all text long run (x ∷ r) i rd done) e h))
  in_value_of Colon long run c r i rd done (colon e) d h =
      same r (i + 1) done (in_value rd long Text (i + 1) false false)
      (value_more all text long run Text 58 r i rd done false false refl refl refl (λ p x. run_other long run p 58 refl (λ g l. refl) x) (subst (λ (x : ℕ). InValue all text long run (x ∷ r) i rd done) e h))
  in_value_of Other long run c r i rd done (other b n10 n58 n37 n59) d h =
      same r (i + 1) done (in_value rd long Text (i + 1) false false)
      (value_more all text long run Text c r i rd done false false n10 (rw (b, n10) refl) (rw (b, n10, n59) refl)
      (λ p x. run_other long run p c n59 (λ g l. rw (n37, b) refl) x) h)

  -- one character more
  pub one_step : (c : ℕ) (r : List ℕ) (i : ℕ) (rd : PartMachine) (done : List HeaderPart) (good : Bool) → drop (i + 1) text ≡ r
      → (rd.state ≡ Name → header_char_of c ≡ Colon → good ≡ is_good_name (slice_range text rd.trim.from rd.trim.to))
      → StandsIn all text rd.state (c ∷ r) i rd done → After r (i + 1) done (next_part_machine rd (header_char_of c) i (i + 1) good)
  one_step c r i rd done good d g h = by rd.state refl h
    where
      by : (st : PartState) → rd.state ≡ st → StandsIn all text st (c ∷ r) i rd done → After r (i + 1) done (step_in st rd (header_char_of c) i (i + 1) good)
      by Name e h = in_name (header_char_of c) c r i rd done good (is_kind c) e d (g e) h
      by Skip e h = in_skip (header_char_of c) c r i rd done good (is_kind c) e d h
      by (Value long run) e h = in_value_of (header_char_of c) long run c r i rd done (is_kind c) d h

  -- ---- the end of the text

  -- all parts are those emitted, what the end emits, and the open value
  pub the_end : (i : ℕ) (rd : PartMachine) (done : List HeaderPart) → StandsIn all text rd.state [] i rd done
      → all ≡ (done ++ seen text (last_in rd.state rd i)) ++ open_part (open_in rd.state rd.header)
  the_end i rd done h = grind (arith, end_name, append-nil, end_marked, end_open)
