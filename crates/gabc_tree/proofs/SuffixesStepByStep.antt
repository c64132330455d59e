-- The suffixes of a note, read from the last byte to the first.
use Rattle.std.proofs.Common.{◌≡◌, ◌<◌, ℕ, suc, ◌+◌, ◌==◌, ◌||◌, Bool, true, false, List, [], ◌∷◌, drop, min, refl, ap, sym, ◌∙◌, arith, eqb-true, if◌then◌else◌}
use Rattle.gabc_patterns.specs.Pattern.{is_in}
use Rattle.gabc_notes.specs.Notes.{digits_of}
use Rattle.gabc_tree.specs.Signs.{bars, suffixes, covered, with_cover, side_by, last_size, size_by, episema_size, is_unbridged, signs_of}
use Rattle.gabc_tree.specs.machine.Signs.{suffixes_read}
use Rattle.gabc_tree.specs.declared.signs.Covered.{Covered}
use Rattle.gabc_tree.specs.declared.signs.EpisemaSize.{EpisemaSize}
use Rattle.gabc_tree.specs.declared.signs.EpisemaSize.TheVariants as size
use Rattle.gabc_tree.specs.declared.signs.SuffixesRead.{SuffixesRead}

-- a size that is told again is told once
last_twice : (s t : EpisemaSize) → last_size s t ≡ last_size s (last_size s t)
last_twice size.Whole size.Whole = refl
last_twice size.Left size.Whole = refl
last_twice size.Centre size.Whole = refl
last_twice size.Right size.Whole = refl
last_twice s size.Left = refl
last_twice s size.Centre = refl
last_twice s size.Right = refl

or_twice : (a b : Bool) → (a || b) ≡ (a || (a || b))
or_twice true b = refl
or_twice false b = refl

-- some `_` begin a text that has a first one
one_more_bar : (t : List ℕ) → 0 < bars t → (u : List ℕ) × (t ≡ 95 ∷ u)
one_more_bar [] h = absurd (omega arith)
one_more_bar (c ∷ t) h = go (c == 95) refl
  where
    go : (b : Bool) → (c == 95) ≡ b → (u : List ℕ) × (c ∷ t ≡ 95 ∷ u)
    go true e = (t, ap (λ (x : ℕ). x ∷ t) (eqb-true c 95 e))
    go false e = let none : 0 < (if c == 95 then suc (bars t) else 0) = h in absurd (omega (arith, rw e at none))

-- what is read with a `_` before a text that begins with one: only the run is longer
abbrev longer : SuffixesRead → Covered → ℕ → SuffixesRead
longer s w r = record { signs = record s.signs { covered = w }; run = r; side = s.side }

longer_is : (u : List ℕ) (r : ℕ) → r ≡ min 7 (suc (suc (bars u)))
    → longer (suffixes_read (95 ∷ u)) (with_cover (covered (suffixes (95 ∷ u))) (side_by (digits_of (drop (bars u) u))) r) r ≡ suffixes_read (95 ∷ 95 ∷ u)
longer_is u r e =
    let t : List ℕ = 95 ∷ u in
    let digits : List ℕ = digits_of (drop (bars u) u) in
    let with = λ (r : ℕ) (s : EpisemaSize) (b : Bool).
    record (longer (suffixes_read t) (with_cover (covered (suffixes t)) (side_by digits) r) r) {
      signs = record (signs_of (suffixes t)) { covered = with_cover (covered (suffixes t)) (side_by digits) r; size = s; unbridged = b };
    } in
    ap (λ (r : ℕ). with r (episema_size (suffixes t)) (is_unbridged (suffixes t))) e
    ∙ (ap (λ (s : EpisemaSize). with (min 7 (suc (suc (bars u)))) s (is_unbridged (suffixes t))) (last_twice (size_by digits) (episema_size (suffixes u)))
    ∙ ap (λ (b : Bool). with (min 7 (suc (suc (bars u)))) (episema_size (suffixes (95 ∷ t))) b) (or_twice (is_in 50 digits) (is_unbridged (suffixes u))))

pub bar_before_bars : (self : SuffixesRead) (t : List ℕ) (w : Covered) (r : ℕ) → self ≡ suffixes_read t → 0 < self.run → r ≡ min 7 (self.run + 1)
    → w ≡ with_cover self.signs.covered self.side r → longer self w r ≡ suffixes_read (95 ∷ t)
bar_before_bars self t w r e h er ew =
    let run : self.run ≡ min 7 (bars t) = ap (λ (s : SuffixesRead). s.run) e in
    let first = one_more_bar t (omega (arith, run)) in
    let u = first.0 in
    let is : self ≡ suffixes_read (95 ∷ u) = e ∙ ap suffixes_read first.1 in
    let run_is : self.run ≡ min 7 (suc (bars u)) = ap (λ (s : SuffixesRead). s.run) is in
    let r_is : r ≡ min 7 (suc (suc (bars u))) = omega (arith, run_is, er) in
    ap (λ (w : Covered). longer self w r) ew
    ∙ (ap (λ (s : SuffixesRead). longer s (with_cover s.signs.covered s.side r) r) is
    ∙ (longer_is u r r_is ∙ ap (λ (t : List ℕ). suffixes_read (95 ∷ t)) (sym first.1)))
