-- Each body has one cutting, and what it emits is what its parts emit.
use Rattle.std.proofs.Common.{◌≡◌, ℕ, List, [], ◌∷◌, ◌++◌, map, Bool, true, false, ◌==◌, if◌then◌else◌, Option, Some, None, refl, sym, ap, ◌∙◌, inl, inr, ◌⊎◌, arith}
use Rattle.std.specs.List.{list_any}
use Rattle.std.specs.Option.{option_map}
use Rattle.gabc_places.specs.declared.place.Place.{Place}
use Rattle.gabc_text.specs.declared.text_event.TextEvent.{TextEvent}
use Rattle.gabc_notes.specs.declared.stage.NoteEvent.{NoteEvent}
use Rattle.gabc_places.specs.declared.place.Char.{Char}
use Rattle.gabc_body.specs.declared.events.BodyEvent.{BodyEvent}
use Rattle.gabc_body.specs.Events.{PartAhead, InComment, InText, InNotes, Texts, is_text_end, is_next, is_close, first_list, other_lists, next_line, text_from, part_after_character, events_from, events_in, events_at_end}
use Rattle.gabc_body.specs.Units.{Mark, Opens, Next, Closes, CutPart, Cutting, EndedPart, BodyUnit, LastUnit, JustText, OpenNotes, Units, BodyCutting, cut_part, snippets_with, units_pieces, last_characters, cutting_of, whole, part_onward, NoLf, BeginsWithLf, events_through, mark_in, Endless, EndsAfter, part_following, Cuts, events_of_cutting, first_text, IsCutFrom, IsCut, events_of_parts, events_of_body_cutting}

-- a body that is cut into parts
record FlatBody : Type 0 where
  comment : List Char
  parts : Option Cutting

abbrev IsFlat : Texts → ℕ → ℕ → List Char → FlatBody → Type 0
IsFlat texts lines macros xs c = IsCutFrom texts lines macros xs c.comment c.parts

-- ---- the cutting of the parts, character by character

abbrev push : CutPart → Cutting → Cutting
push p cut = record { pieces = p ∷ cut.pieces; last = cut.last }

abbrev longer : Char → CutPart → CutPart
longer x p = record { characters = x ∷ p.characters; end = p.end; mark = p.mark }

abbrev grown : Char → List CutPart → List Char → Cutting
grown x [] last = record { pieces = []; last = x ∷ last }
grown x (p ∷ pieces) last = record { pieces = longer x p ∷ pieces; last = last }

abbrev grow : Char → Cutting → Cutting
grow x cut = grown x cut.pieces cut.last

abbrev all_of : Cutting → List Char
all_of cut = whole cut.pieces cut.last

abbrev ended : Char → Mark → Cutting → Cutting
ended x mark cut = push (record { characters = []; end = x; mark = mark }) cut

abbrev cut_by : Char → Option Mark → (Mark → Cutting) → Cutting → Cutting
cut_by x None then_ on = grow x on
cut_by x (Some mark) then_ on = ended x mark (then_ mark)

grown_whole : (x : Char) (pieces : List CutPart) (last : List Char) → all_of (grown x pieces last) ≡ x ∷ whole pieces last
grown_whole x [] last = refl
grown_whole x (p ∷ pieces) last = refl

module _ (texts : Texts) (lines macros : ℕ) where
  abbrev cut : PartAhead → List Char → Cutting
  cut part [] = record { pieces = []; last = [] }
  cut part (x ∷ xs) = cut_by x (mark_in lines part) (λ mark. cut (part_following texts lines macros mark x xs) xs) (cut (part_onward part) xs)

  -- a cutting is this one
  endless_is : (part : PartAhead) (last : List Char) → Endless lines part last → cut part last ≡ record { pieces = []; last = last }
  endless_is part [] h = refl
  endless_is part (x ∷ xs) h = grind (arith, endless_is (part_onward part) xs h.1)

  ends_is : (part : PartAhead) (prefix : List Char) (mark : Mark) (end : Char) (rest : List Char) → EndsAfter lines part prefix mark
      → cut part (prefix ++ end ∷ rest) ≡ push (record { characters = prefix; end = end; mark = mark }) (cut (part_following texts lines macros mark end rest) rest)
  ends_is part [] mark end rest h = ap (λ o. cut_by end o (λ m. cut (part_following texts lines macros m end rest) rest) (cut (part_onward part) rest)) h
  ends_is part (x ∷ prefix) mark end rest h = grind (arith, ends_is (part_onward part) prefix mark end rest h.1)

  cuts_is : (part : PartAhead) (pieces : List CutPart) (last : List Char) → Cuts texts lines macros part pieces last
      → cut part (whole pieces last) ≡ record { pieces = pieces; last = last }
  cuts_is part [] last h = endless_is part last h
  cuts_is part (p ∷ pieces) last h =
      rw (ends_is part p.characters p.mark p.end (whole pieces last) h.0, cuts_is (part_following texts lines macros p.mark p.end (whole pieces last)) pieces last h.1) refl

  -- it is one
  grown_cuts : (part : PartAhead) (x : Char) (pieces : List CutPart) (last : List Char) → mark_in lines part ≡ None → Cuts texts lines macros (part_onward part) pieces last
      → Cuts texts lines macros part (grown x pieces last).pieces (grown x pieces last).last
  grown_cuts part x pieces last none h = grind arith

  abbrev IsOf : PartAhead → List Char → Cutting → Type 0
  IsOf part xs c = (all_of c ≡ xs) × Cuts texts lines macros part c.pieces c.last

  is_by : (part : PartAhead) (x : Char) (xs : List Char) (o : Option Mark) → mark_in lines part ≡ o
      → (then_ : Mark → Cutting) → ((mark : Mark) → IsOf (part_following texts lines macros mark x xs) xs (then_ mark))
      → (on : Cutting) → IsOf (part_onward part) xs on
      → IsOf part (x ∷ xs) (cut_by x o then_ on)
  is_by part x xs o e then_ ht on ho = grind (arith, grown_whole, grown_cuts)

  pub is_cut : (part : PartAhead) (xs : List Char) → IsOf part xs (cut part xs)
  is_cut part [] = (refl, tt)
  is_cut part (x ∷ xs) =
      is_by part x xs (mark_in lines part) refl (λ mark. cut (part_following texts lines macros mark x xs) xs) (λ mark. is_cut (part_following texts lines macros mark x xs) xs) (cut (part_onward part) xs) (is_cut (part_onward part) xs)

  -- ---- the cutting of a body

  abbrev commented : Char → FlatBody → FlatBody
  commented x c = record { comment = x ∷ c.comment; parts = c.parts }

  abbrev body_by : Bool → Char → List Char → FlatBody → FlatBody
  body_by true x xs on = record { comment = []; parts = Some (cut (text_from texts x.place (x ∷ xs)) (x ∷ xs)) }
  body_by false x xs on = commented x on

  abbrev body_cut : List Char → FlatBody
  body_cut [] = record { comment = []; parts = None }
  body_cut (x ∷ xs) = body_by (x.c == 10) x xs (body_cut xs)

  no_lf_is : (comment : List Char) → NoLf comment → body_cut comment ≡ record { comment = comment; parts = None }
  no_lf_is [] h = refl
  no_lf_is (x ∷ xs) h = ap (λ b. body_by b x xs (body_cut xs)) h.0 ∙ ap (commented x) (no_lf_is xs h.1)

  lf_is : (comment ys : List Char) → NoLf comment → BeginsWithLf ys → body_cut (comment ++ ys) ≡ record { comment = comment; parts = Some (cut (first_text texts ys) ys) }
  lf_is [] [] h k = elim k [ ]
  lf_is [] (x ∷ xs) h k = ap (λ b. body_by b x xs (body_cut xs)) k
  lf_is (x ∷ xs) ys h k = ap (λ b. body_by b x (xs ++ ys) (body_cut (xs ++ ys))) h.0 ∙ ap (commented x) (lf_is xs ys h.1 k)

  body_is : (xs comment : List Char) (parts : Option Cutting) → IsCutFrom texts lines macros xs comment parts → body_cut xs ≡ record { comment = comment; parts = parts }
  body_is xs comment parts h = grind (arith, no_lf_is, lf_is, cuts_is)

  flat_no_other : (xs : List Char) (c d : FlatBody) → IsFlat texts lines macros xs c → IsFlat texts lines macros xs d → c ≡ d
  flat_no_other xs c d h k = sym (body_is xs c.comment c.parts h) ∙ body_is xs d.comment d.parts k

  commented_is : (x : Char) (xs : List Char) (c : FlatBody) → (x.c == 10) ≡ false → IsFlat texts lines macros xs c → IsFlat texts lines macros (x ∷ xs) (commented x c)
  commented_is x xs c e h = grind arith

  first_is : (x : Char) (xs : List Char) (c : Cutting) → (x.c == 10) ≡ true → IsOf (text_from texts x.place (x ∷ xs)) (x ∷ xs) c
      → IsFlat texts lines macros (x ∷ xs) (record { comment = []; parts = Some c })
  first_is x xs c e h = grind arith

  body_is_by : (x : Char) (xs : List Char) (b : Bool) → (x.c == 10) ≡ b → (c : FlatBody) → IsFlat texts lines macros xs c → IsFlat texts lines macros (x ∷ xs) (body_by b x xs c)
  body_is_by x xs true e c h = first_is x xs (cut (text_from texts x.place (x ∷ xs)) (x ∷ xs)) e (is_cut (text_from texts x.place (x ∷ xs)) (x ∷ xs))
  body_is_by x xs false e c h = commented_is x xs c e h

  body_is_cut : (xs : List Char) → IsFlat texts lines macros xs (body_cut xs)
  body_is_cut [] = (refl, tt)
  body_is_cut (x ∷ xs) = body_is_by x xs (x.c == 10) refl (body_cut xs) (body_is_cut xs)

-- ---- what the parts emit

abbrev pub IsPastComment : PartAhead → Type 0
IsPastComment InComment = ⊥
IsPastComment (InText lists) = Unit
IsPastComment (InNotes line opened lists) = Unit

onward_read : (part : PartAhead) → IsPastComment part → IsPastComment (part_onward part)
onward_read part h = grind arith

end_emitted : (part : PartAhead) → IsPastComment part → events_at_end part ≡ events_in part
end_emitted part h = grind arith

module _ (texts : Texts) (lines macros : ℕ) where
  follows_read : (mark : Mark) (x : Char) (xs : List Char) → IsPastComment (part_following texts lines macros mark x xs)
  follows_read mark x xs = grind arith

  abbrev after_by : Option Mark → PartAhead → Char → List Char → PartAhead
  after_by None part x xs = part_onward part
  after_by (Some mark) part x xs = part_following texts lines macros mark x xs

  abbrev by_events : PartAhead → Char → List Char → Option Mark → List (List BodyEvent)
  by_events part x xs o = events_in part ∷ events_from texts lines macros (after_by o part x xs) xs

  point_emitted : (part : PartAhead) → IsPastComment part → (x : Char) (xs : List Char) → events_from texts lines macros part (x ∷ xs) ≡ by_events part x xs (mark_in lines part)
  point_emitted part h x xs = grind arith

  endless_emitted : (part : PartAhead) (last : List Char) → IsPastComment part → Endless lines part last → events_from texts lines macros part last ≡ events_through part last
  endless_emitted part [] k h = ap (λ ts. ts ∷ []) (end_emitted part k)
  endless_emitted part (x ∷ xs) k h = grind (arith, endless_emitted (part_onward part) xs (onward_read part k) h.1, point_emitted, onward_read)

  pub ends_emitted : (part : PartAhead) (prefix : List Char) (mark : Mark) (end : Char) (rest : List Char) → IsPastComment part → EndsAfter lines part prefix mark
      → events_from texts lines macros part (prefix ++ end ∷ rest) ≡ events_through part prefix ++ events_from texts lines macros (part_following texts lines macros mark end rest) rest
  ends_emitted part [] mark end rest k h = point_emitted part k end rest ∙ ap (by_events part end rest) h
  ends_emitted part (x ∷ prefix) mark end rest k h =
      point_emitted part k x (prefix ++ end ∷ rest) ∙ ap (by_events part x (prefix ++ end ∷ rest)) h.0
      ∙ ap (λ ls. events_in part ∷ ls) (ends_emitted (part_onward part) prefix mark end rest (onward_read part k) h.1)

  pub cuts_emitted : (part : PartAhead) (pieces : List CutPart) (last : List Char) → IsPastComment part → Cuts texts lines macros part pieces last
      → events_from texts lines macros part (whole pieces last) ≡ events_of_cutting texts lines macros part pieces last
  cuts_emitted part [] last k h = endless_emitted part last k h
  cuts_emitted part (p ∷ pieces) last k h =
      ends_emitted part p.characters p.mark p.end (whole pieces last) k h.0
      ∙ ap (λ ls. events_through part p.characters ++ ls)
      (cuts_emitted (part_following texts lines macros p.mark p.end (whole pieces last)) pieces last (follows_read p.mark p.end (whole pieces last)) h.1)

  abbrev comment_by : Char → List Char → Bool → List (List BodyEvent)
  comment_by x xs b =
      let part = if b then text_from texts x.place (x ∷ xs) else InComment in
      events_in part ∷ events_from texts lines macros (part_after_character texts lines macros part x xs) xs

  no_lf_emitted : (comment : List Char) → NoLf comment → events_from texts lines macros InComment comment ≡ map (λ (x : Char). []) comment ++ events_at_end InComment ∷ []
  no_lf_emitted [] h = refl
  no_lf_emitted (x ∷ xs) h = ap (comment_by x xs) h.0 ∙ ap (λ ls. [] ∷ ls) (no_lf_emitted xs h.1)

  lf_emitted : (comment ys : List Char) → NoLf comment → BeginsWithLf ys
      → events_from texts lines macros InComment (comment ++ ys) ≡ map (λ (x : Char). []) comment ++ events_from texts lines macros (first_text texts ys) ys
  lf_emitted [] [] h k = elim k [ ]
  lf_emitted [] (x ∷ xs) h k = ap (comment_by x xs) k
  lf_emitted (x ∷ xs) ys h k = ap (comment_by x (xs ++ ys)) h.0 ∙ ap (λ ls. [] ∷ ls) (lf_emitted xs ys h.1 k)

  first_read : (ys : List Char) → BeginsWithLf ys → IsPastComment (first_text texts ys)
  first_read ys k = grind arith

  body_emits_by : (xs comment : List Char) (parts : Option Cutting) → IsCutFrom texts lines macros xs comment parts
      → events_from texts lines macros InComment xs ≡ map (λ (x : Char). []) comment ++ events_of_parts texts lines macros parts
  body_emits_by xs comment parts k = grind (arith, no_lf_emitted, lf_emitted, cuts_emitted, first_read)

  pub body_emits_all : (xs : List Char) (c : BodyCutting) → IsCut texts lines macros xs c → events_from texts lines macros InComment xs ≡ events_of_body_cutting texts lines macros c
  body_emits_all xs c h = body_emits_by xs c.comment (option_map (cutting_of lines) c.units) h

-- ---- units

-- parts that begin in notes: through their `)` and after it, or without one
data Noted : Type 0 where
  Never : List EndedPart → List Char → Noted
  Closed : List EndedPart → EndedPart → Units → Noted

-- parts as units, if they begin with a text, and if they begin in notes
record Grouped : Type 0 where
  as_text : Units
  as_notes : Noted

abbrev opened_with : EndedPart → Noted → Units
opened_with e (Never nexts xs) = record { closed = []; last = OpenNotes e nexts xs }
opened_with e (Closed nexts final u) = record { closed = record { text = e; nexts = nexts; final = final } ∷ u.closed; last = u.last }

abbrev next_with : EndedPart → Noted → Noted
next_with e (Never nexts xs) = Never (e ∷ nexts) xs
next_with e (Closed nexts final u) = Closed (e ∷ nexts) final u

abbrev group_by : Mark → EndedPart → Grouped → Grouped
group_by Opens e g = record { as_text = opened_with e g.as_notes; as_notes = g.as_notes }
group_by (Next line opened) e g = record { as_text = g.as_text; as_notes = next_with e g.as_notes }
group_by Closes e g = record { as_text = g.as_text; as_notes = Closed [] e g.as_text }

abbrev group : List CutPart → List Char → Grouped
group [] last = record { as_text = record { closed = []; last = JustText last }; as_notes = Never [] last }
group (p ∷ pieces) last = group_by p.mark (record { characters = p.characters; end = p.end }) (group pieces last)

module _ (texts : Texts) (lines macros : ℕ) where
  -- a text ends at its `(`, and a snippet at a `|` or its `)`
  pub text_mark : (lists : List (List TextEvent)) (prefix : List Char) (mark : Mark) → EndsAfter lines (InText lists) prefix mark → mark ≡ Opens
  text_mark lists [] mark h = by (list_any is_text_end (first_list lists)) h
    where
      by : (b : Bool) → (if b then Some Opens else None) ≡ Some mark → mark ≡ Opens
      by true e = cc
      by false e = absurd (cc)
  text_mark lists (x ∷ xs) mark h = text_mark (other_lists lists) xs mark h.1

  notes_mark : (line : ℕ) (opened : Place) (lists : List (List NoteEvent)) (prefix : List Char) (mark : Mark) → EndsAfter lines (InNotes line opened lists) prefix mark
      → (mark ≡ Next (next_line lines line) opened) ⊎ (mark ≡ Closes)
  notes_mark line opened lists [] mark h = by (list_any is_next (first_list lists)) (list_any is_close (first_list lists)) h
    where
      by : (b d : Bool) → (if b then Some (Next (next_line lines line) opened) else if d then Some Closes else None) ≡ Some mark → (mark ≡ Next (next_line lines line) opened) ⊎ (mark ≡ Closes)
      by true d e = inl (cc)
      by false true e = inr (cc)
      by false false e = absurd (cc)
  notes_mark line opened lists (x ∷ xs) mark h = notes_mark line opened (other_lists lists) xs mark h.1

  abbrev the_cutting : Units → Cutting
  the_cutting u = cutting_of lines u

  abbrev noted : ℕ → Place → Noted → Cutting
  noted line opened (Never nexts xs) = record { pieces = snippets_with lines line opened nexts []; last = xs }
  noted line opened (Closed nexts final u) =
      record { pieces = snippets_with lines line opened nexts (cut_part final Closes ∷ units_pieces lines u.closed u.last); last = last_characters u.last }

  opened_is : (e : EndedPart) (n : Noted) → the_cutting (opened_with e n) ≡ push (cut_part e Opens) (noted 0 e.end.place n)
  opened_is e n = grind arith

  next_is : (line : ℕ) (opened : Place) (e : EndedPart) (n : Noted)
      → noted line opened (next_with e n) ≡ push (cut_part e (Next (next_line lines line) opened)) (noted (next_line lines line) opened n)
  next_is line opened e (Never nexts xs) = refl
  next_is line opened e (Closed nexts final u) = refl

  abbrev Regroups : PartAhead → Cutting → Grouped → Type 0
  Regroups InComment c g = Unit
  Regroups (InText lists) c g = the_cutting g.as_text ≡ c
  Regroups (InNotes line opened lists) c g = noted line opened g.as_notes ≡ c

  regroups_by : (part : PartAhead) (e : EndedPart) (mark : Mark) (xs : List Char) (c : Cutting) (g : Grouped) → EndsAfter lines part e.characters mark
      → Regroups (part_following texts lines macros mark e.end xs) c g → Regroups part (push (cut_part e mark) c) (group_by mark e g)
  regroups_by part e mark xs c g h k = grind (arith, opened_is, text_mark, notes_mark, next_is)

  regroups : (part : PartAhead) (pieces : List CutPart) (last : List Char) → Cuts texts lines macros part pieces last
      → Regroups part (record { pieces = pieces; last = last }) (group pieces last)
  regroups InComment [] last h = tt
  regroups (InText lists) [] last h = refl
  regroups (InNotes line opened lists) [] last h = refl
  regroups part (p ∷ pieces) last h =
      regroups_by part (record { characters = p.characters; end = p.end }) p.mark (whole pieces last) (record { pieces = pieces; last = last }) (group pieces last) h.0
      (regroups (part_following texts lines macros p.mark p.end (whole pieces last)) pieces last h.1)

  -- units are those of their parts
  abbrev nexts_with : List EndedPart → Noted → Noted
  nexts_with [] n = n
  nexts_with (e ∷ nexts) n = next_with e (nexts_with nexts n)

  never_is : (nexts : List EndedPart) (xs : List Char) → nexts_with nexts (Never [] xs) ≡ Never nexts xs
  never_is [] xs = refl
  never_is (e ∷ nexts) xs = ap (next_with e) (never_is nexts xs)

  closed_is : (nexts : List EndedPart) (final : EndedPart) (u : Units) → nexts_with nexts (Closed [] final u) ≡ Closed nexts final u
  closed_is [] final u = refl
  closed_is (e ∷ nexts) final u = ap (next_with e) (closed_is nexts final u)

  snippets_group : (line : ℕ) (opened : Place) (nexts : List EndedPart) (more : List CutPart) (last : List Char)
      → (group (snippets_with lines line opened nexts more) last).as_notes ≡ nexts_with nexts (group more last).as_notes
  snippets_group line opened [] more last = refl
  snippets_group line opened (e ∷ nexts) more last = ap (next_with e) (snippets_group (next_line lines line) opened nexts more last)

  units_group : (units : List BodyUnit) (last : LastUnit)
      → (group (units_pieces lines units last) (last_characters last)).as_text ≡ record { closed = units; last = last }
  units_group [] (JustText xs) = refl
  units_group [] (OpenNotes text nexts xs) = ap (opened_with text) (snippets_group 0 text.end.place nexts [] xs ∙ never_is nexts xs)
  units_group (u ∷ units) last = grind (arith, units_group units last, snippets_group, closed_is)

  abbrev units_of : Cutting → Units
  units_of c = (group c.pieces c.last).as_text

  abbrev with_units : FlatBody → BodyCutting
  with_units c = record { comment = c.comment; units = option_map units_of c.parts }

  abbrev in_parts : BodyCutting → FlatBody
  in_parts c = record { comment = c.comment; parts = option_map the_cutting c.units }

  same_units : (c : BodyCutting) → with_units (in_parts c) ≡ c
  same_units c = grind (arith, units_group)

  same_parts : (ys : List Char) (c : Cutting) → BeginsWithLf ys → Cuts texts lines macros (first_text texts ys) c.pieces c.last → the_cutting (units_of c) ≡ c
  same_parts ys c k h = grind (arith, regroups)

  units_cut : (xs comment : List Char) (parts : Option Cutting) → IsCutFrom texts lines macros xs comment parts
      → IsCutFrom texts lines macros xs comment (option_map the_cutting (option_map units_of parts))
  units_cut xs comment parts h = grind (arith, same_parts)

  pub one : (xs : List Char) → (c : BodyCutting) × IsCut texts lines macros xs c
  one xs =
      let c = body_cut texts lines macros xs in
      (with_units c, units_cut xs c.comment c.parts (body_is_cut texts lines macros xs))

  pub no_other : (xs : List Char) (c d : BodyCutting) → IsCut texts lines macros xs c → IsCut texts lines macros xs d → c ≡ d
  no_other xs c d h k = sym (same_units c) ∙ ap with_units (flat_no_other texts lines macros xs (in_parts c) (in_parts d) h k) ∙ same_units d
