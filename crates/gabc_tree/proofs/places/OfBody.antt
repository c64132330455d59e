-- What is found in a body, and what stops its reading, stands at its characters or at the end.
use Rattle.std.proofs.Common.{◌≡◌, ℕ, zero, suc, Bool, true, false, true≢false, cond, not, ◌&&◌, ◌||◌, ◌==◌, List, [], ◌∷◌, ◌++◌, take, reverse, Option, Some, None, refl, sym, ap, subst, ◌∙◌, ◌⊎◌, inl, inr}
use Rattle.gabc_places.specs.Fate.{Fate, Keep, Comment, Ends, LeaveOut}
use Rattle.gabc_places.specs.declared.code.Code.{Code}
use Rattle.gabc_places.specs.declared.code.Code.TheVariants.{W8, W9, W10, W11, F6}
use Rattle.gabc_places.specs.declared.code.Fault.{Fault}
use Rattle.gabc_places.specs.declared.code.Finding.{Finding}
use Rattle.gabc_places.specs.declared.limits.Limits.{Limits}
use Rattle.gabc_places.specs.declared.place.Char.{Char}
use Rattle.gabc_places.specs.declared.place.Place.{Place}
use Rattle.gabc_patterns.specs.Reads.{longest, kind_of, items_by, whole_front}
use Rattle.gabc_text.specs.KeptText.{view_of_kept, belongs, codes_with}
use Rattle.gabc_text.specs.Token.{tokens}
use Rattle.gabc_text.specs.View.{codes_at_end, is_cut}
use Rattle.gabc_notes.specs.Events.{ItemText, opens_fusion, closes_fusion, macro_of, is_missing}
use Rattle.gabc_notes.specs.FirstSound.{first_sound}
use Rattle.gabc_notes.specs.KeptNotes as notes
use Rattle.gabc_notes.specs.Table.{gabc}
use Rattle.gabc_notes.specs.declared.item.ItemKind.{ItemKind}
use Rattle.gabc_notes.specs.declared.item.ItemKind.TheVariants.{Attribute}
use Rattle.gabc_nabc.specs.KeptNabc as nabc_text
use Rattle.gabc_body.specs.Body.{code_by, fault_at, has_text, empty_snippet}
use Rattle.gabc_body.specs.Reading.{Part, InText, InNotes, Reading, BodyRead, at_start, kept_bytes, place_by, found_within, found_at, with_found, fate_by, kept_as, inner_by, found_by, with_kept, with_text_ended, sound_codes, with_sound, with_snippet_ended, past_snippet, with_end, with_fate, past, code_now, stops_by, read_on, open_by, with_syllable, with_last, ended, result_of, result_by_code, result_by_open, result_at_end, result_by}
use Rattle.gabc_body.specs.Reading as read
use Rattle.gabc_body.specs.declared.body_result.BodyResult.{BodyResult}
use Rattle.gabc_body.specs.declared.ending.InputEnding.{InputEnding}
use Rattle.gabc_body.specs.declared.ending.InputEnding.TheVariants.{Whole, Broken, At}
use Rattle.gabc_tree.proofs.places.OfText.{AllIn, both_in}

module _ (In : Place → Type 0) where
  -- ---- codes at a place

  pub codes_in : (cs : List Code) (here : Place) → In here → AllIn In (found_at cs here)
  codes_in [] here h = tt
  codes_in (c ∷ cs) here h = (h, codes_in cs here h)

  place_in : (c : Code) (inner here : Place) → In inner → In here → In (place_by c inner here)
  place_in W8 inner here i h = i
  place_in _ inner here i h = h

  within_in : (cs : List Code) (inner here : Place) → In inner → In here → AllIn In (found_within cs inner here)
  within_in [] inner here i h = tt
  within_in (c ∷ cs) inner here i h = (place_in c inner here i h, within_in cs inner here i h)

  -- ---- one character is no macro

  short_macro : (kind : ItemKind) (c : ℕ) (n : ℕ) → macro_of (Some (kind, take n (c ∷ []))) ≡ None
  short_macro Attribute c zero = refl
  short_macro Attribute c (suc zero) = refl
  short_macro Attribute c (suc (suc n)) = refl
  short_macro _ c n = refl

  fusion_in : (o : Bool) (inner here : Place) → In here → AllIn In (found_within (cond o (W10 ∷ []) [] ++ cond false (W8 ∷ []) []) inner here)
  fusion_in true inner here h = (h, tt)
  fusion_in false inner here h = tt

  item_in : (macros : ℕ) (i : ItemText) (inner here : Place) → macro_of (Some i) ≡ None → In here → AllIn In (found_within (notes.found_of_item macros (i ∷ [])) inner here)
  item_in macros i inner here e h =
      subst (λ (m : Option ℕ). AllIn In (found_within (cond ((opens_fusion (Some i) && false) || (closes_fusion (Some i) && not false)) (W10 ∷ []) [] ++ cond (is_missing macros m) (W8 ∷ []) []) inner here))
      (sym e) (fusion_in ((opens_fusion (Some i) && false) || (closes_fusion (Some i) && not false)) inner here h)

  first_in : (macros c : ℕ) (inner here : Place) → In here → AllIn In (found_within (notes.found_in_notes macros (c ∷ [])) inner here)
  first_in macros c inner here h = by (notes.is_snippet (c ∷ []))
    where
      items_in : (o : Option (ItemKind × ℕ)) → AllIn In (found_within (notes.found_of_item macros (reverse (elim o as (λ _. List ItemText) [
        | None ↦ []
        | Some i ↦ (i.0, take i.1 (c ∷ [])) ∷ []
      ]))) inner here)
      items_in None = tt
      items_in (Some i) = item_in macros (i.0, take i.1 (c ∷ [])) inner here (short_macro i.0 c i.1) h

      by : (o : Bool) → AllIn In (found_within (cond o (notes.found_of_item macros (notes.items_back (c ∷ []))) []) inner here)
      by true = items_in (longest (kind_of gabc) 1 (c ∷ []))
      by false = tt

  -- ---- what has been read

  abbrev pub ParenIn : Part → Place → Type 0
  ParenIn InText p = Unit {0}
  ParenIn (InNotes line) p = In p

  abbrev pub OpenIn : Part → Place → Type 0
  OpenIn InText p = In p
  OpenIn (InNotes line) p = (line == 0) ≡ true → In p

  pub record ReadIn (r : Reading) : Type 0 where
    pub paren_in : ParenIn r.part r.paren
    pub inner_in : (r.kept ≡ []) ⊎ OpenIn r.part r.inner

  pub record BodyIn (b : BodyRead) : Type 0 where
    pub found_in : AllIn In b.found
    pub reading_in : ReadIn b.reading

  pub fresh_in : (comment : Bool) → ReadIn (at_start comment)
  fresh_in comment = record { paren_in = tt; inner_in = inl refl }

  more_in : (b : BodyRead) (fs : List Finding) → BodyIn b → AllIn In fs → BodyIn (with_found fs b)
  more_in b fs i h = record { found_in = both_in In b.found fs i.found_in h; reading_in = i.reading_in }

  -- ---- a character that is kept

  either_in : (o : Bool) (inner here : Place) → In inner → In here → In (cond o inner here)
  either_in true inner here i h = i
  either_in false inner here i h = h

  inner_now : (part : Part) (kept : List ℕ) (inner : Place) (x : Char) → In x.place → (kept ≡ []) ⊎ OpenIn part inner → OpenIn part (inner_by part kept inner x)
  inner_now InText kept inner x h (inl e) = subst (λ (ks : List ℕ). In (cond (belongs (reverse (tokens ks)) x.c) inner x.place)) (sym e) h
  inner_now InText kept inner x h (inr i) = either_in (belongs (reverse (tokens kept)) x.c) inner x.place i h
  inner_now (InNotes line) kept inner x h (inl e) = λ z. subst (λ (o : Bool). In (cond (not o || notes.in_raw kept) inner x.place)) (sym z) (subst (λ (ks : List ℕ). In (cond (notes.in_raw ks) inner x.place)) (sym e) h)
  inner_now (InNotes line) kept inner x h (inr i) = λ z. subst (λ (o : Bool). In (cond (not o || notes.in_raw kept) inner x.place)) (sym z) (either_in (notes.in_raw kept) inner x.place (i z) h)

  found_now : (macros : ℕ) (part : Part) (kept : List ℕ) (inner : Place) (x : Char) → In x.place → (kept ≡ []) ⊎ OpenIn part inner → AllIn In (found_by macros part kept inner x)
  found_now macros InText kept inner x h i = codes_in (codes_with (reverse (tokens (kept ++ kept_as InText kept x.c ∷ [])))) (inner_by InText kept inner x) (inner_now InText kept inner x h i)
  found_now macros (InNotes line) kept inner x h i = by (line == 0) refl i
    where
      by : (o : Bool) → (line == 0) ≡ o → (kept ≡ []) ⊎ OpenIn (InNotes line) inner → AllIn In (cond o (found_within (notes.found_in_notes macros (kept ++ x.c ∷ [])) inner x.place) (found_at (nabc_text.found_in_nabc kept x.c) x.place))
      by true e (inl k) = subst (λ (ks : List ℕ). AllIn In (found_within (notes.found_in_notes macros (ks ++ x.c ∷ [])) inner x.place)) (sym k) (first_in macros x.c inner x.place h)
      by true e (inr k) = within_in (notes.found_in_notes macros (kept ++ x.c ∷ [])) inner x.place (k e) h
      by false e k = codes_in (nabc_text.found_in_nabc kept x.c) x.place h

  kept_in : (macros : ℕ) (b : BodyRead) (x : Char) → BodyIn b → In x.place → BodyIn (with_kept macros b x)
  kept_in macros b x i h =
      let r = b.reading in
      record {
        found_in = both_in In b.found (found_by macros r.part r.kept r.inner x) i.found_in (found_now macros r.part r.kept r.inner x h i.reading_in.inner_in);
        reading_in = record { paren_in = i.reading_in.paren_in; inner_in = inr (inner_now r.part r.kept r.inner x h i.reading_in.inner_in) };
      }

  -- ---- the end of a part

  sound_in : (first : Option Bool) (here : Place) (b : BodyRead) → BodyIn b → In here → BodyIn (with_sound first here b)
  sound_in first here b i h = record { found_in = both_in In b.found (found_at (sound_codes b.sounded first) here) i.found_in (codes_in (sound_codes b.sounded first) here h); reading_in = i.reading_in }

  snippet_in : (line : ℕ) (here : Place) (b : BodyRead) → BodyIn b → In here → BodyIn (with_snippet_ended line here b)
  snippet_in line here b i h = by (line == 0)
    where
      by : (o : Bool) → BodyIn (cond o (with_sound (first_sound (items_by gabc (whole_front gabc b.reading.kept))) here (with_found (found_at (notes.found_at_end b.reading.kept) here) b)) (with_found (found_at (nabc_text.found_at_end b.reading.kept) here) b))
      by true = sound_in (first_sound (items_by gabc (whole_front gabc b.reading.kept))) here _ (more_in b (found_at (notes.found_at_end b.reading.kept) here) i (codes_in (notes.found_at_end b.reading.kept) here h)) h
      by false = more_in b (found_at (nabc_text.found_at_end b.reading.kept) here) i (codes_in (nabc_text.found_at_end b.reading.kept) here h)

  same_part : (line : ℕ) (b : BodyRead) (here : Place) → (with_snippet_ended line here b).reading ≡ b.reading
  same_part line b here = by (line == 0)
    where
      by : (o : Bool) → (cond o (with_sound (first_sound (items_by gabc (whole_front gabc b.reading.kept))) here (with_found (found_at (notes.found_at_end b.reading.kept) here) b)) (with_found (found_at (nabc_text.found_at_end b.reading.kept) here) b)).reading ≡ b.reading
      by true = refl
      by false = refl

  either_body : (o : Bool) (a b : BodyRead) → BodyIn a → BodyIn b → BodyIn (cond o a b)
  either_body true a b h i = h
  either_body false a b h i = i

  past_in_notes : (lines line mark : ℕ) (b : BodyRead) → BodyIn b → In b.reading.paren → BodyIn (past_snippet lines line mark b)
  past_in_notes lines line mark b i p =
      either_body (mark == 124) _ _ (record { found_in = i.found_in; reading_in = record { paren_in = p; inner_in = inl refl } }) (record { found_in = i.found_in; reading_in = fresh_in false })

  end_in : (lines : ℕ) (part : Part) (b : BodyRead) (x : Char) → b.reading.part ≡ part → BodyIn b → In x.place → BodyIn (with_end lines part b x)
  end_in lines InText b x e i h =
      record { found_in = both_in In b.found (found_at (codes_at_end (reverse (tokens b.reading.kept))) x.place) i.found_in (codes_in (codes_at_end (reverse (tokens b.reading.kept))) x.place h); reading_in = record { paren_in = h; inner_in = inl refl } }
  end_in lines (InNotes line) b x e i h =
      let paren : In b.reading.paren = subst (λ (p : Part). ParenIn p b.reading.paren) e i.reading_in.paren_in in
      past_in_notes lines line x.c (with_snippet_ended line x.place b) (snippet_in line x.place b i h) (subst (λ (r : Reading). In r.paren) (sym (same_part line b x.place)) paren)

  -- ---- a character

  fate_in : (lines macros : ℕ) (b : BodyRead) (x : Char) (f : Fate) → BodyIn b → In x.place → BodyIn (with_fate lines macros b x f)
  fate_in lines macros b x Keep i h = kept_in macros b x i h
  fate_in lines macros b x Comment i h = record { found_in = i.found_in; reading_in = record { paren_in = i.reading_in.paren_in; inner_in = i.reading_in.inner_in } }
  fate_in lines macros b x (LeaveOut None) i h = record { found_in = i.found_in; reading_in = record { paren_in = i.reading_in.paren_in; inner_in = i.reading_in.inner_in } }
  fate_in lines macros b x (LeaveOut (Some code)) i h =
      record { found_in = both_in In b.found (found_at (code ∷ []) x.place) i.found_in (codes_in (code ∷ []) x.place h); reading_in = record { paren_in = i.reading_in.paren_in; inner_in = i.reading_in.inner_in } }
  fate_in lines macros b x Ends i h = end_in lines b.reading.part b x refl i h

  past_in : (lines macros : ℕ) (b : BodyRead) (x : Char) → BodyIn b → In x.place → BodyIn (past lines macros b x)
  past_in lines macros b x i h = by (b.reading.comment && not (x.c == 10))
    where
      by : (o : Bool) → BodyIn (cond o b (with_fate lines macros b x (fate_by lines b.reading.part b.reading.kept x.c)))
      by true = i
      by false = fate_in lines macros b x (fate_by lines b.reading.part b.reading.kept x.c) i h

  -- ---- the stop

  abbrev pub FaultIn : Option Fault → Type 0
  FaultIn None = Unit {0}
  FaultIn (Some fault) = In fault.place

  abbrev pub CharsIn : List Char → Type 0
  CharsIn [] = Unit {0}
  CharsIn (x ∷ xs) = In x.place × CharsIn xs

  abbrev StoppedIn : BodyRead × Option Fault → Type 0
  StoppedIn s = BodyIn s.0 × FaultIn s.1

  stops_in : (code : Option Code) (here : Place) (b : BodyRead) (later : BodyRead × Option Fault) → BodyIn b → In here → StoppedIn later → StoppedIn (stops_by code here b later)
  stops_in (Some code) here b later i h l = (i, h)
  stops_in None here b later i h l = l

  on_in : (limits : Limits) (head lines macros : ℕ) (xs : List Char) (b : BodyRead) → BodyIn b → CharsIn xs → StoppedIn (read_on limits head lines macros b xs)
  on_in limits head lines macros [] b i h = (i, tt)
  on_in limits head lines macros (x ∷ xs) b i h =
      let next = past lines macros b x in
      stops_in (code_now limits head next) x.place b (read_on limits head lines macros next xs) i h.0 (on_in limits head lines macros xs next (past_in lines macros b x i h.0) h.1)

  -- ---- the end

  last_in : (here : Place) (b : BodyRead) → AllIn In b.found → In here → AllIn In (with_last here b).found
  last_in here b i h = by (has_text (view_of_kept b.reading.kept))
    where
      by : (o : Bool) → AllIn In (cond o (with_found (found_at (W9 ∷ []) here) (with_syllable (kept_bytes b.reading) b.reading.kept (empty_snippet (kept_bytes b.reading) ∷ []) b)) b).found
      by true = both_in In b.found (found_at (W9 ∷ []) here) i (h, tt)
      by false = i

  ended_in : (here : Place) (b : BodyRead) → AllIn In b.found → In here → AllIn In (ended here b).found
  ended_in here b i h =
      let now = found_at (codes_at_end (reverse (tokens b.reading.kept))) here in
      let all = with_last here (with_text_ended here b) in
      let spans = cond (all.eu || all.nlba) (W11 ∷ []) [] in
      both_in In all.found (found_at spans here) (last_in here (with_text_ended here b) (both_in In b.found now i (codes_in (codes_at_end (reverse (tokens b.reading.kept))) here h)) h) (codes_in spans here h)

  open_in : (part : Part) (r : Reading) → r.part ≡ part → ReadIn r → (p : Place) → open_by part r ≡ Some p → In p
  open_in InText r e i p f = by (is_cut (reverse (tokens r.kept))) refl f i.inner_in
    where
      by : (o : Bool) → is_cut (reverse (tokens r.kept)) ≡ o → cond o (Some r.inner) None ≡ Some p → (r.kept ≡ []) ⊎ OpenIn r.part r.inner → In p
      by true c g (inl k) = absurd (true≢false (sym c ∙ ap (λ (ks : List ℕ). is_cut (reverse (tokens ks))) k))
      by true c g (inr k) = subst In (cc g) (subst (λ (q : Part). OpenIn q r.inner) e k)
      by false c g k = absurd (cc g)
  open_in (InNotes line) r e i p f = subst In (cc f) (by (line == 0) refl (notes.in_raw r.kept) refl i.inner_in)
    where
      by : (z : Bool) → (line == 0) ≡ z → (o : Bool) → notes.in_raw r.kept ≡ o → (r.kept ≡ []) ⊎ OpenIn r.part r.inner → In (cond (z && o) r.inner r.paren)
      by true y true c (inl k) = absurd (true≢false (sym c ∙ ap notes.in_raw k))
      by true y true c (inr k) = subst (λ (q : Part). OpenIn q r.inner) e k y
      by true y false c k = subst (λ (q : Part). ParenIn q r.paren) e i.paren_in
      by false y o c k = subst (λ (q : Part). ParenIn q r.paren) e i.paren_in

  pub record ResultIn (result : BodyResult) : Type 0 where
    pub findings_in : AllIn In result.findings
    pub fault_in : FaultIn result.fault

  abbrev pub EndingIn : InputEnding → Type 0
  EndingIn Whole = Unit {0}
  EndingIn Broken = Unit {0}
  EndingIn (At fault) = In fault.place

  made_in : (found : List Finding) (b : BodyRead) (fault : Option Fault) → AllIn In found → AllIn In b.found → FaultIn fault → ResultIn (result_of found b fault)
  made_in found b fault g i f = record { findings_in = both_in In found b.found g i; fault_in = f }

  code_in : (found : List Finding) (here : Place) (b all : BodyRead) (code : Option Code) → AllIn In found → AllIn In b.found → AllIn In all.found → In here → ResultIn (result_by_code found here b all code)
  code_in found here b all (Some code) g i a h = made_in found b (Some (fault_at here code)) g i h
  code_in found here b all None g i a h = made_in found all None g a tt

  at_open : (limits : Limits) (head : ℕ) (found : List Finding) (here : Place) (b : BodyRead) (o : Option Place) → ((p : Place) → o ≡ Some p → In p) → AllIn In found → AllIn In b.found → In here
      → ResultIn (result_by_open limits head found here b o)
  at_open limits head found here b (Some p) n g i h = made_in found b (Some (fault_at p F6)) g i (n p refl)
  at_open limits head found here b None n g i h =
      let all = ended here b in code_in found here b all (code_by limits head all.made (kept_bytes b.reading)) g i (ended_in here b i h) h

  at_end_in : (limits : Limits) (head : ℕ) (found : List Finding) (here : Place) (ending : InputEnding) (b : BodyRead) → EndingIn ending → AllIn In found → BodyIn b → In here → ResultIn (result_at_end limits head found here ending b)
  at_end_in limits head found here Whole b e g i h = at_open limits head found here b (open_by b.reading.part b.reading) (λ p f. open_in b.reading.part b.reading refl i.reading_in p f) g i.found_in h
  at_end_in limits head found here Broken b e g i h = made_in found b None g i.found_in tt
  at_end_in limits head found here (At fault) b e g i h = made_in found b (Some fault) g i.found_in e

  pub body_in : (limits : Limits) (head : ℕ) (lines macros : ℕ) (found : List Finding) (here : Place) (ending : InputEnding) (xs : List Char) → EndingIn ending → AllIn In found → CharsIn xs → In here
      → ResultIn (result_by limits head found here ending (read_on limits head lines macros read.begun xs))
  body_in limits head lines macros found here ending xs e g c h = by (read_on limits head lines macros read.begun xs) (on_in limits head lines macros xs read.begun (record { found_in = tt; reading_in = fresh_in true }) c)
    where
      by : (s : BodyRead × Option Fault) → StoppedIn s → ResultIn (result_by limits head found here ending s)
      by (b, Some fault) i = made_in found b (Some fault) g i.0.found_in i.1
      by (b, None) i = at_end_in limits head found here ending b e g i.0 h
