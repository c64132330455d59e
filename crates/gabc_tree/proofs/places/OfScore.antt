-- What is found in a score, and its fault, stands at bytes of the input.
use Rattle.std.proofs.Common.{◌≡◌, ℕ, ◌+◌, ◌<◌, ◌^◌, Bool, true, false, List, [], ◌∷◌, ◌++◌, length, take, nat_lt, take-append-drop, Option, Some, None, Result, Ok, Err, sym, ap, subst, ◌∙◌, append_assoc, arith}
use Rattle.std.specs.List.{All}
use Rattle.std.specs.Option.{option_map}
use Rattle.std.proofs.lemmas.List.Elements.{All-nil, All-cons}
use Rattle.gabc_places.specs.Place.{place_after, placed_characters_after}
use Rattle.gabc_places.specs.Text.{decoded_of, stop_code_of, tail_of, text_of_bytes, utf8_prefix_of}
use Rattle.gabc_places.specs.declared.code.Code.{Code}
use Rattle.gabc_places.specs.declared.code.Fault.{Fault}
use Rattle.gabc_places.specs.declared.code.Finding.{Finding}
use Rattle.gabc_places.specs.declared.limits.Limits.{Limits}
use Rattle.gabc_places.specs.declared.place.Place.{Place}
use Rattle.gabc_places.proofs.PlacesOfAText.{after_joined}
use Rattle.gabc_places.proofs.texts.TextsAreScalars.{text_short}
use Rattle.gabc_headers.proofs.entries.TextsAsBytes.{length-encodes}
use Rattle.gabc_headers.specs.Book.{nabc_lines_of, macros_of}
use Rattle.gabc_headers.specs.Canonical.{canonical_heads}
use Rattle.gabc_headers.specs.Heads.{head_len, heads_of}
use Rattle.gabc_headers.specs.Lines.{bytes_len}
use Rattle.gabc_headers.specs.declared.heads.Heads.{Heads}
use Rattle.gabc_headers.specs.declared.heads.HeadFault.{HeadFault}
use Rattle.gabc_body.specs.Score.{heads_text, after_heads, head_fault_by, score_by, score_of}
use Rattle.gabc_body.specs.declared.ending.InputEnding.{InputEnding}
use Rattle.gabc_body.specs.declared.ending.InputEnding.TheVariants.{Whole, Broken, At}
use Rattle.gabc_body.specs.declared.score.Score.{Score}
use Rattle.gabc_tree.specs.InputPlaces.{IsThere, IsThereIfSome, AllAreThere}
use Rattle.gabc_tree.specs.NotKept.{start}
use Rattle.gabc_tree.specs.Tree.{ending_by}
use Rattle.gabc_tree.proofs.fates.Input.{shown_is}
use Rattle.gabc_tree.proofs.fates.OfScore.{few_characters}
use Rattle.gabc_tree.proofs.fates.Walk.{IsNear}
use Rattle.gabc_tree.proofs.places.OfBody as body
use Rattle.gabc_tree.proofs.places.OfHeaders.{HeadsIn, heads_in}
use Rattle.gabc_tree.proofs.places.OfInput.{reached}
use Rattle.gabc_tree.proofs.places.OfText.{IsPlaceOf, place_at_end, AllIn}

module _ (limits : Limits) (bytes : List ℕ) where
  abbrev text : List ℕ
  text = text_of_bytes limits.input bytes

  abbrev In : Place → Type 0
  In p = IsPlaceOf text p

  abbrev fault : Option Fault
  fault = (decoded_of limits true bytes).fault

  -- ---- places of the text

  -- what stands after the headers
  chars_in : (front back : List ℕ) → text ≡ front ++ back → body.CharsIn In (placed_characters_after front back)
  chars_in front [] e = tt
  chars_in front (c ∷ back) e = (record { front = front; back = c ∷ back; parts = e; place_is = sym (after_joined [] front) }, chars_in (front ++ c ∷ []) back (e ∙ sym (append_assoc front (c ∷ []) back)))

  abbrev ending : InputEnding
  ending = ending_by fault

  ending_in : body.EndingIn In ending
  ending_in = by (stop_code_of (nat_lt limits.input (length bytes)) true (tail_of (take limits.input bytes)))
    where
      by : (o : Option Code) → body.EndingIn In (ending_by (option_map (λ (code : Code). record { place = place_after text; code = code }) o))
      by None = tt
      by (Some code) = place_at_end text

  -- ---- the score

  record ScoreIn (score : Score) : Type 0 where
    findings_in : AllIn In score.findings
    fault_in : body.FaultIn In score.fault

  stopped_in : (e : InputEnding) (at_end : Bool) (stop : Fault) → body.EndingIn In e → In stop.place → body.FaultIn In (head_fault_by e at_end stop)
  stopped_in e false stop i h = h
  stopped_in Whole true stop i h = h
  stopped_in Broken true stop i h = tt
  stopped_in (At other) true stop i h = i

  score_in : (r : Result Heads HeadFault) → HeadsIn text r → ScoreIn (score_by limits ending text r)
  score_in (Ok heads) h =
      let head = bytes_len (canonical_heads heads.book) in
      let xs = placed_characters_after (heads_text text) (after_heads text) in
      let made = body.body_in In limits head (nabc_lines_of heads.book) (macros_of heads.book) heads.findings (place_after text) ending xs ending_in h (chars_in (heads_text text) (after_heads text) (sym (take-append-drop (head_len text + 2) text))) (place_at_end text) in
      record { findings_in = made.findings_in; fault_in = made.fault_in }
  score_in (Err stop) h = record { findings_in = h.0; fault_in = stopped_in ending stop.at_end stop.fault ending_in h.1 }

  all_in : ScoreIn (score_of limits ending text)
  all_in = score_in (heads_of limits text) (heads_in text limits)

  -- ---- bytes of the input

  near : IsNear start text
  near = record { lines = small; columns = small }
    where
      small : 1 + length (text_of_bytes limits.input bytes) < 2 ^ 64
      small =
          let few = few_characters text in
          let long = length-encodes text in
          let short = text_short limits.input bytes in
          let most = limits.in_range.input_most in
          omega (arith, few, long, short, most)

  there : (p : Place) → In p → IsThere (take limits.input bytes) p
  there p i =
      let cs = utf8_prefix_of (take limits.input bytes) in
      let r = reached cs p 0 0 start i.front i.back (sym (shown_is cs) ∙ i.parts) i.place_is (subst (IsNear start) i.parts near) in
      record {
        before = r.before;
        after = r.after;
        parts = r.parts;
        place_is = ap place_after (shown_is r.before ∙ r.front_is) ∙ (sym (after_joined [] i.front) ∙ sym i.place_is);
        byte_is = r.byte_is ∙ omega arith;
      }

  all_there : (fs : List Finding) → AllIn In fs → All (λ (f : Finding). IsThere (take limits.input bytes) f.place) fs
  all_there [] h = All-nil (λ (f : Finding). IsThere (take limits.input bytes) f.place)
  all_there (f ∷ fs) h = All-cons (λ (f : Finding). IsThere (take limits.input bytes) f.place) f fs (there f.place h.0) (all_there fs h.1)

  fault_there : (o : Option Fault) → body.FaultIn In o → IsThereIfSome (take limits.input bytes) o
  fault_there None h = tt
  fault_there (Some fault) h = there fault.place h

  pub places_so : AllAreThere limits bytes
  places_so = record { findings = all_there (score_of limits ending text).findings all_in.findings_in; fault = fault_there (score_of limits ending text).fault all_in.fault_in }
