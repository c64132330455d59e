-- The places between which findings lie, and the marks at which ends are emitted.
use Rattle.std.proofs.Common.{◌≡◌, ℕ, ◌+◌, suc, List, [], ◌∷◌, ◌++◌, true, sym, subst, length, take, arith}
use Rattle.gabc_notes.proofs.machine.LoopOverBody.{findings_append}
use Rattle.gabc_places.proofs.PlacesInOrder.{up_to_self, up_to_then, up_to_next, up_to_past, lie_append}
use Rattle.gabc_places.specs.declared.code.Finding.{Finding}
use Rattle.gabc_places.specs.declared.place.Char.{Char}
use Rattle.gabc_places.specs.declared.place.Place.{Place}
use Rattle.gabc_places.specs.Findings.{IsUpTo, LieBetween}
use Rattle.gabc_places.specs.StageLaw.{concat_of}
use Rattle.gabc_places.specs.Place.{next_place, place_past, placed_characters_from}
use Rattle.gabc_notes.specs.Ends.{EndWithMark, EndAtMost, AreCutAtMost}
use Rattle.gabc_notes.specs.SnippetRead.{findings_of}
use Rattle.gabc_nabc.specs.Events.{is_end, kept_of, end_events, events_at, cut_events, nabc_events_after, nabc_events}
use Rattle.gabc_nabc.specs.SnippetRead.{AreAtMostOne}
use Rattle.gabc_nabc.proofs.grammar.LawsOfEvents.{no_end}
use Rattle.gabc_nabc.proofs.order.FindingsAreInOrder.{one_at_most, cut_quiet}

-- ---- bounds

-- the finding of a character that stands between the two
one_between : (p q r : Place) (fs : List Finding) → AreAtMostOne q fs → IsUpTo p q → IsUpTo q r → LieBetween p r fs
one_between p q r fs e l m = grind arith

-- ---- the characters of a prefix and the one after it

through : (at : Place) (prefix rest t : List ℕ) (p : Place) → IsUpTo at p
    → LieBetween at (place_past p prefix) (findings_of (concat_of (take (length prefix + 1) (nabc_events_after t (placed_characters_from p (prefix ++ rest))))))
through at [] [] t p l = subst (LieBetween at p) (sym (cut_quiet t)) tt
through at [] (c ∷ rest) t p l =
    let x : Char = record { c = c; place = p } in
    subst (LieBetween at p) (sym (findings_append (events_at t x) []))
    (lie_append at p (findings_of (events_at t x)) [] (one_between at p p (findings_of (events_at t x)) (one_at_most t x) l (up_to_self p)) tt)
through at (c ∷ prefix) rest t p l =
    let x : Char = record { c = c; place = p } in
    let last = place_past (next_place p c) prefix in
    let later = nabc_events_after (t ++ c ∷ []) (placed_characters_from (next_place p c) (prefix ++ rest)) in
    let n : length (c ∷ prefix) + 1 ≡ suc (length prefix + 1) = omega arith in
    subst (λ (k : ℕ). LieBetween at last (findings_of (concat_of (take k (events_at t x ∷ later))))) (sym n)
    (subst (LieBetween at last) (sym (findings_append (events_at t x) (concat_of (take (length prefix + 1) later))))
    (lie_append at last (findings_of (events_at t x)) (findings_of (concat_of (take (length prefix + 1) later)))
    (one_between at p last (findings_of (events_at t x)) (one_at_most t x) l (up_to_past p (c ∷ prefix)))
    (through at prefix rest (t ++ c ∷ []) (next_place p c) (up_to_then at p (next_place p c) l (up_to_next p c)))))

pub all_within : (at : Place) (prefix rest : List ℕ) → LieBetween at (place_past at prefix) (findings_of (concat_of (take (length prefix + 1) (nabc_events (placed_characters_from at (prefix ++ rest))))))
all_within at prefix rest = through at prefix rest [] at (up_to_self at)

-- ---- marks

end_marked : (t : List ℕ) (x : Char) → is_end t x.c ≡ true → EndWithMark true x.c (end_events (kept_of t) x)
end_marked t x e = grind arith

pub ends_at_mark : (t : List ℕ) (x : Char) → EndAtMost true x.c (events_at t x)
ends_at_mark t x = grind (arith, no_end, end_marked)

pub cut_at_most : (t : List ℕ) → AreCutAtMost (cut_events t)
cut_at_most t = grind arith
