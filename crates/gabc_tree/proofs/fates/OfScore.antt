-- What is not kept of a score's input is what is read.
use Rattle.std.proofs.Common.{◌≡◌, ℕ, zero, suc, ◌+◌, ◌≤◌, ◌<◌, ◌^◌, Bool, true, false, true≢false, cond, List, [], ◌∷◌, ◌++◌, length, take, drop, take-append-drop, Option, Some, None, Result, Ok, Err, is_some, nat_lt, refl, sym, ap, subst, ◌∙◌, append_assoc, append-nil, length-append, ◌⊎◌, inl, inr, arith}
use Rattle.std.specs.List.{All}
use Rattle.std.specs.Str.{chars}
use Rattle.std.proofs.lemmas.List.Elements.{All-nil, All-cons, All-append}
use Rattle.std.proofs.lemmas.List.{take_at, drop_at}
use Rattle.std.proofs.lemmas.Str.{len_utf8_bounds}
use lib.Utf8.{scalars}
use Rattle.gabc_places.specs.Fate.{LeaveOut}
use Rattle.gabc_places.specs.Place.{next_place, place_past, place_after, placed_characters, placed_characters_after, placed_characters_from}
use Rattle.gabc_places.specs.Text.{is_left_out, read_as, text_of_bytes, text_of_characters, utf8_prefix_of, decoded_of}
use Rattle.gabc_places.specs.declared.code.Finding.{Finding}
use Rattle.gabc_places.specs.declared.limits.Limits.{Limits}
use Rattle.gabc_places.specs.declared.place.Char.{Char}
use Rattle.gabc_places.specs.declared.place.Place.{Place}
use Rattle.gabc_places.proofs.PlacesOfAText.{placed_after, after_joined}
use Rattle.gabc_places.proofs.decoding.PlainTextsAreReadAgain.{all_scalars}
use Rattle.gabc_places.proofs.texts.TextsAreScalars.{text_scalars, text_short}
use Rattle.gabc_headers.proofs.entries.TextsAsBytes.{bytes_len-cons, length-encodes}
use Rattle.gabc_headers.specs.Book.{nabc_lines_of, macros_of}
use Rattle.gabc_headers.specs.Canonical.{canonical_heads}
use Rattle.gabc_headers.specs.Heads.{head_len, heads_of}
use Rattle.gabc_headers.specs.Lines.{bytes_len}
use Rattle.gabc_headers.specs.declared.heads.Heads.{Heads}
use Rattle.gabc_headers.specs.declared.heads.HeadFault.{HeadFault}
use Rattle.gabc_patterns.proofs.LongestPrefixIsFound.{scalars_parts}
use Rattle.gabc_body.specs.Canonical.{with_positions, placed_syllables_by}
use Rattle.gabc_body.specs.ReadAlone.{read_of}
use Rattle.gabc_body.specs.Reading.{BodyRead, read_on, result_by}
use Rattle.gabc_body.specs.Reading as read
use Rattle.gabc_body.specs.Score.{heads_text, after_heads, score_by, score_of}
use Rattle.gabc_body.specs.Syllable.{PlacedSyllable, UnplacedSyllable}
use Rattle.gabc_body.specs.declared.body_result.BodyResult.{BodyResult}
use Rattle.gabc_body.specs.declared.ending.InputEnding.{InputEnding}
use Rattle.gabc_body.specs.declared.score.Score.{Score}
use Rattle.gabc_nodes.specs.declared.kind.Kind.TheVariants as kind
use Rattle.gabc_tree.specs.CodeNumber.{number_of_code}
use Rattle.gabc_tree.specs.Fates.{fate_at, kept_at_end, is_cut, out_by_fate, out_by_reading, is_error, IsLeftOutThere, AreLeftOutThere, reached_after, read_first, IsWhatIsRead, AllAreFound}
use Rattle.gabc_tree.specs.HeaderNodes.{head_end_by}
use Rattle.gabc_tree.specs.NotKept.{Reached, begun, start, from_here, is_silent, out_of, out_by, out_in_body, but_first}
use Rattle.gabc_tree.specs.NotKept as beside
use Rattle.gabc_tree.specs.Tree.{ending_by, characters_before, kept_characters}
use Rattle.gabc_tree.proofs.fates.OfHeaders.{heads_are, count_is}
use Rattle.gabc_tree.proofs.fates.Steps.{AreOthers, mild_others}
use Rattle.gabc_tree.proofs.fates.Coming.{coming, read_to_end, kept_in, from_syllable}
use Rattle.gabc_tree.proofs.fates.LeftOutThere.{IsLeft, AreLeft, IsShownAt, later_left, shown_at}
use Rattle.gabc_tree.proofs.fates.MadeWell.{IsMadeWell, AreMadeWell, all_made_well}
use Rattle.gabc_tree.proofs.fates.ToTheEnd.{result_is, kept_to_end}
use Rattle.gabc_tree.proofs.fates.FoundLater.{found_later, later_is, mild_past}
use Rattle.gabc_tree.proofs.fates.Walk.{IsNear, Beside}
use Rattle.gabc_tree.proofs.fates.Input.{same_front, shown, shown_is, past_both, placed_both, placed_length, Stands, after_characters, out_is_read, found_all}

-- ---- the score

placed_kept : (first : Bool) (ms : List UnplacedSyllable) → kept_characters (placed_syllables_by first ms) ≡ kept_in ms
placed_kept first [] = refl
placed_kept first (m ∷ ms) = ap (λ (u : List ℕ). chars m.kept ++ u) (placed_kept false ms)

abbrev pub AreWellPlaced : List PlacedSyllable → Type 0
AreWellPlaced [] = Unit {0}
AreWellPlaced (s ∷ ss) = IsMadeWell s.made × AreWellPlaced ss

placed_well : (first : Bool) (ms : List UnplacedSyllable) → AreMadeWell ms → AreWellPlaced (placed_syllables_by first ms)
placed_well first [] h = tt
placed_well first (m ∷ ms) h = (h.0, placed_well false ms h.1)

pub few_characters : (t : List ℕ) → length t ≤ bytes_len t
few_characters [] = omega arith
few_characters (c ∷ t) = let n = bytes_len-cons c t in let least = (len_utf8_bounds c).0 in let more = few_characters t in omega (arith, n, least, more)

-- what follows a front
rest_is : (a u rest t all : List ℕ) → a ≡ u → all ≡ a ++ rest → all ≡ u ++ t → rest ≡ t
rest_is a u rest t all e f g = (same_front u u rest t refl (ap (λ (v : List ℕ). v ++ rest) (sym e) ∙ (sym f ∙ g))).1

-- a character of the body that is shown
out_shown : (s : Reached) (c : ℕ) → s.heads ≡ 0 → is_silent s c ≡ false → out_of s c ≡ out_in_body s (read_as c)
out_shown s c none loud =
    ap (λ (o : Bool). cond o (Some (kind.Silent, 0)) (out_by s (read_as c))) loud
    ∙ ap (λ (n : ℕ). cond (nat_lt 0 n) None (out_in_body s (read_as c))) none

module _ (limits : Limits) (bytes : List ℕ) (heads : Heads) (heads_is : heads_of limits (text_of_bytes limits.input bytes) ≡ Ok heads) where
  abbrev text : List ℕ
  text = text_of_bytes limits.input bytes

  abbrev ending : InputEnding
  ending = ending_by (decoded_of limits true bytes).fault

  abbrev head : ℕ
  head = bytes_len (canonical_heads heads.book)

  abbrev lines : ℕ
  lines = nabc_lines_of heads.book

  abbrev macros : ℕ
  macros = macros_of heads.book

  abbrev h : List ℕ
  h = heads_text text

  abbrev body : List ℕ
  body = after_heads text

  abbrev score : Score
  score = score_of limits ending text

  abbrev kept : List ℕ
  kept = kept_characters score.syllables

  abbrev count : ℕ
  count = characters_before heads.body text

  abbrev xs : List Char
  xs = placed_characters_from (place_past start h) body

  pub text_is : h ++ body ≡ text
  text_is = take-append-drop (head_len text + 2) text

  pub count_of : count ≡ length h
  count_of = ap (λ (n : ℕ). characters_before n text) (heads_are limits text heads heads_is).body_is ∙ (ap (characters_before (bytes_len h)) (sym text_is) ∙ count_is h body)

  to_end : place_after text ≡ place_past start (h ++ body)
  to_end = sym (ap (place_past start) text_is ∙ after_joined [] text)

  near : IsNear start (h ++ body)
  near = subst (IsNear start) (sym text_is) (record { lines = small; columns = small })
    where
      small : 1 + length (text_of_bytes limits.input bytes) < 2 ^ 64
      small =
          let few = few_characters text in
          let long = length-encodes text in
          let short = text_short limits.input bytes in
          let most = limits.in_range.input_most in
          omega (arith, few, long, short, most)

  scalar_body : scalars body ≡ true
  scalar_body = (scalars_parts h body (ap scalars text_is ∙ all_scalars text (text_scalars limits.input bytes))).1

  abbrev final : BodyRead
  final = read_to_end limits head lines macros (place_after text) ending read.begun xs

  xs_are : placed_characters_after h body ≡ xs
  xs_are = sym (placed_after h body) ∙ ap (λ (p : Place). placed_characters_from p body) (sym (after_joined [] h))

  of_body : (score.syllables ≡ with_positions final.made) × (score.findings ≡ heads.findings ++ final.found)
  of_body =
      let e : score ≡ score_by limits ending text (Ok heads) = ap (score_by limits ending text) heads_is in
      let r = result_is limits head lines macros heads.findings (place_after text) ending read.begun xs in
      let f = ap (λ (ys : List Char). result_by limits head heads.findings (place_after text) ending (read_on limits head lines macros read.begun ys)) xs_are in (
        ap (λ (s : Score). s.syllables) e ∙ (ap (λ (b : BodyResult). b.syllables) f ∙ r.syllables_are),
        ap (λ (s : Score). s.findings) e ∙ (ap (λ (b : BodyResult). b.findings) f ∙ r.findings_are),
      )

  kept_are : kept ≡ from_syllable (read.at_start true) (kept_at_end lines macros read.begun xs) (coming limits head lines macros (place_after text) ending read.begun xs)
  kept_are =
      ap kept_characters of_body.0 ∙ (placed_kept true final.made
      ∙ kept_to_end limits head lines macros heads.findings (place_after text) ending body (place_past start h) read.begun (record { first = refl; before_scalar = refl; kept_scalar = refl }) scalar_body)

  found_are : from_here (place_past start h) score.findings ≡ from_here (place_past start h) (found_later limits head lines macros (place_after text) ending read.begun xs)
  found_are =
      ap (from_here (place_past start h)) (of_body.1 ∙ ap (λ (fs : List Finding). heads.findings ++ fs) (later_is limits head lines macros (place_after text) ending xs read.begun))
      ∙ mild_past (place_past start h) heads.findings (found_later limits head lines macros (place_after text) ending read.begun xs) (heads_are limits text heads heads_is).mild

  ready : Beside limits head lines macros (place_after text) ending read.begun (place_past start h) body true kept (from_here (place_past start h) score.findings)
  ready = by (coming limits head lines macros (place_after text) ending read.begun xs) refl kept_are
    where
      by : (o : Option (List ℕ)) → coming limits head lines macros (place_after text) ending read.begun xs ≡ o → kept ≡ from_syllable (read.at_start true) (kept_at_end lines macros read.begun xs) o
          → Beside limits head lines macros (place_after text) ending read.begun (place_past start h) body true kept (from_here (place_past start h) score.findings)
      by None e f = inl f
      by (Some ks) e f = inr (record { coming_is = e ∙ ap Some (sym f); comment_is = refl; findings_are = found_are })

  abbrev begins : Reached
  begins = begun count kept score.findings

  abbrev StandsHere : Reached → List ℕ → List ℕ → Type 0
  StandsHere s u t = Stands limits head lines macros (place_after text) ending h body kept score.findings to_end near ready s u t

  starts : StandsHere begins [] text
  starts = subst (λ (n : ℕ). StandsHere (begun n kept score.findings) [] text) (sym count_of) (by (length h) refl)
    where
      none : (u : List ℕ) → length u ≡ 0 → u ≡ []
      none [] e = refl
      none (c ∷ u) e = absurd (omega (arith, e))

      by : (n : ℕ) → length h ≡ n → StandsHere (begun n kept score.findings) [] text
      by zero e =
          let empty = none h e in
          let same : body ≡ text = ap (λ (u : List ℕ). u ++ body) (sym empty) ∙ text_is in
          inr (record {
            gone = [];
            all_is = sym empty ∙ sym (append-nil h);
            heads_is = refl;
            place_is = refl;
            beside =
                subst (λ (t : List ℕ). Beside limits head lines macros (place_after text) ending read.begun start t true kept (from_here start score.findings)) same
                (subst (λ (u : List ℕ). Beside limits head lines macros (place_after text) ending read.begun (place_past start u) body true kept (from_here (place_past start u) score.findings)) empty ready);
          })
      by (suc n) e = inl (record { more = n; heads_is = refl; count_is = let f = e in omega (arith, f); place_is = refl; kept_is = refl; findings_are = refl })

  -- where the going over stands after some characters
  after_some : (before more : List ℕ) → utf8_prefix_of (take limits.input bytes) ≡ before ++ more → StandsHere (reached_after begins before) (shown 0 before) (shown (reached_after begins before).previous more)
  after_some before more e =
      after_characters limits head lines macros (place_after text) ending h body kept score.findings to_end near ready before more begins [] text (sym text_is) starts
      (sym (shown_is (before ++ more)) ∙ ap text_of_characters (sym e))

  shown_both : (previous : ℕ) (s : Reached) (before more : List ℕ) → previous ≡ s.previous → shown previous (before ++ more) ≡ shown previous before ++ shown (reached_after s before).previous more
  shown_both previous s [] more e = ap (λ (p : ℕ). shown p more) e
  shown_both previous s (c ∷ before) more e = by (is_left_out (previous, c)) (shown_both c (beside.past s c) before more refl)
    where
      by : (o : Bool) → shown c (before ++ more) ≡ shown c before ++ shown (reached_after (beside.past s c) before).previous more
          → cond o (shown c (before ++ more)) (read_as c ∷ shown c (before ++ more)) ≡ cond o (shown c before) (read_as c ∷ shown c before) ++ shown (reached_after (beside.past s c) before).previous more
      by true f = f
      by false f = ap (λ (u : List ℕ). read_as c ∷ u) f

  pub syllables_well : AreWellPlaced score.syllables
  syllables_well =
      subst AreWellPlaced (sym of_body.0)
      (placed_well true final.made (all_made_well limits head lines macros (place_after text) ending body (place_past start h) read.begun (record { first = refl; before_scalar = refl; kept_scalar = refl }) tt scalar_body))

  pub all_found : (reached_after begins (utf8_prefix_of (take limits.input bytes))).kept ≡ []
  all_found =
      let cs = utf8_prefix_of (take limits.input bytes) in
      found_all limits head lines macros (place_after text) ending h body kept score.findings to_end near ready (reached_after begins cs) (shown 0 cs) (sym (shown_is cs) ∙ sym text_is)
      (after_some cs [] (sym (append-nil cs)))

  pub what_is_read : (before after : List ℕ) (c : ℕ) (x : Char) (ys : List Char) → utf8_prefix_of (take limits.input bytes) ≡ before ++ c ∷ after
      → let s = reached_after begins before in
      let n = length (text_of_characters before) in
      s.heads ≡ 0 → (s.kept ≡ [] → ⊥) → is_silent s c ≡ false → drop n (placed_characters text) ≡ x ∷ ys
      → out_of s c ≡ out_by_reading lines macros (read_first lines macros count (placed_characters text) n) x ys
  what_is_read before after c x ys e none some loud here =
      let s : Reached = reached_after begins before in
      let u = shown 0 before in
      let d = read_as c in
      let t = shown c after in
      let n : length (text_of_characters before) ≡ length u = ap length (shown_is before) in
      let next : shown s.previous (c ∷ after) ≡ d ∷ t = ap (λ (o : Bool). cond o t (d ∷ t)) loud in
      let all : u ++ d ∷ t ≡ text = ap (λ (v : List ℕ). u ++ v) (sym next) ∙ (sym (shown_both 0 begins before (c ∷ after) refl) ∙ (sym (shown_is (before ++ c ∷ after)) ∙ ap text_of_characters (sym e))) in
      let stands : StandsHere s u (d ∷ t) = subst (StandsHere s u) next (after_some before (c ∷ after) e) in
      let placed : placed_characters text ≡ placed_characters_from start u ++ placed_characters_from (place_past start u) (d ∷ t) = sym (placed_after [] text) ∙ (ap (placed_characters_from start) (sym all) ∙ placed_both start u (d ∷ t)) in
      let long = placed_length start u in
      let rest : x ∷ ys ≡ placed_characters_from (place_past start u) (d ∷ t) =
      sym here ∙ (ap (λ (m : ℕ). drop m (placed_characters text)) n ∙ (ap (drop (length u)) placed ∙ drop_at (placed_characters_from start u) (placed_characters_from (place_past start u) (d ∷ t)) (length u) long)) in
      let front : take (length (text_of_characters before)) (placed_characters text) ≡ placed_characters_from start u =
      ap (λ (m : ℕ). take m (placed_characters text)) n ∙ (ap (take (length u)) placed ∙ take_at (placed_characters_from start u) (placed_characters_from (place_past start u) (d ∷ t)) (length u) long) in
      let x_is : x ≡ record { c = d; place = place_past start u } = cc rest in
      let ys_are : ys ≡ placed_characters_from (next_place (place_past start u) d) t = cc rest in
      out_shown s c none loud
      ∙ (out_is_read limits head lines macros (place_after text) ending h body kept score.findings to_end near ready s u t d (all ∙ sym text_is) stands none some
      ∙ (ap (λ (b : BodyRead). out_by_reading lines macros b (record { c = d; place = place_past start u }) (placed_characters_from (place_past start (u ++ d ∷ [])) t)) (ap (λ (zs : List Char). read_of lines macros read.begun zs) (ap (λ (m : ℕ). drop m (placed_characters_from start u)) (sym count_of) ∙ ap (drop count) (sym front)))
      ∙ (ap (λ (q : Place). out_by_reading lines macros (read_first lines macros count (placed_characters text) (length (text_of_characters before))) (record { c = d; place = place_past start u }) (placed_characters_from q t)) (past_both start u (d ∷ []))
      ∙ (ap (λ (y : Char). out_by_reading lines macros (read_first lines macros count (placed_characters text) (length (text_of_characters before))) y (placed_characters_from (next_place (place_past start u) d) t)) (sym x_is)
      ∙ ap (λ (zs : List Char). out_by_reading lines macros (read_first lines macros count (placed_characters text) (length (text_of_characters before))) x zs) (sym ys_are)))))

  -- ---- what is found

  -- all of the text, by where the finding stands
  all_is : (f : Finding) (l : IsLeft lines macros read.begun (place_past start h) body f) → (h ++ l.front) ++ l.c ∷ l.back ≡ text
  all_is f l = append_assoc h l.front (l.c ∷ l.back) ∙ (ap (λ (v : List ℕ). h ++ v) (sym l.split) ∙ text_is)

  stands_there : (f : Finding) (l : IsLeft lines macros read.begun (place_past start h) body f) (s : Reached) (c : ℕ) → is_silent s c ≡ false → read_as c ≡ l.c → StandsHere s (h ++ l.front) (l.c ∷ l.back)
      → (s.place ≡ f.place) × ((s.kept ≡ []) ⊎ (out_of s c ≡ Some (kind.LeftOut, number_of_code f.code)))
  stands_there f l s c loud d (inl i) = absurd (let n = i.count_is in let m = length-append h l.front in omega (arith, n, m))
  stands_there f l s c loud d (inr i) = (i.place_is ∙ (past_both start h l.front ∙ sym l.place_is), kept_is s.kept refl)
    where
      fate_is : fate_at lines (read_of lines macros read.begun (drop (length h) (placed_characters_from start (h ++ l.front)))) (record { c = l.c; place = place_past start (h ++ l.front) }) ≡ LeaveOut (Some f.code)
      fate_is =
          ap (λ (ys : List Char). fate_at lines (read_of lines macros read.begun ys) (record { c = l.c; place = place_past start (h ++ l.front) }))
          (ap (drop (length h)) (placed_both start h l.front) ∙ drop_at (placed_characters_from start h) (placed_characters_from (place_past start h) l.front) (length h) (placed_length start h))
          ∙ (ap (λ (p : Place). fate_at lines (read_of lines macros read.begun (placed_characters_from (place_past start h) l.front)) (record { c = l.c; place = p })) (past_both start h l.front) ∙ l.fate_is)

      kept_is : (ks : List ℕ) → s.kept ≡ ks → (s.kept ≡ []) ⊎ (out_of s c ≡ Some (kind.LeftOut, number_of_code f.code))
      kept_is [] e = inl e
      kept_is (k ∷ ks) e =
          let u : List ℕ = h ++ l.front in
          let x : Char = record { c = l.c; place = place_past start (h ++ l.front) } in
          let ys = placed_characters_from (place_past start (u ++ l.c ∷ [])) l.back in
          let b : BodyRead = read_of lines macros read.begun (drop (length h) (placed_characters_from start u)) in
          inr (out_shown s c i.heads_is loud
          ∙ (ap (out_in_body s) d
          ∙ (out_is_read limits head lines macros (place_after text) ending h body kept score.findings to_end near ready s u l.back l.c (all_is f l ∙ sym text_is) (inr i) i.heads_is (λ n. (let z : [] ≡ k ∷ ks = sym n ∙ e in cc))
          ∙ ap (out_by_fate (is_cut lines macros b x ys)) fate_is)))

  one_there : (f : Finding) (l : IsLeft lines macros read.begun (place_past start h) body f) → IsShownAt begins (utf8_prefix_of (take limits.input bytes)) (h ++ l.front) l.c → IsLeftOutThere limits bytes heads f
  one_there f l r =
      let cs = utf8_prefix_of (take limits.input bytes) in
      let u : List ℕ = h ++ l.front in
      let s : Reached = reached_after begins r.before in
      let more = rest_is (shown 0 r.before) u (shown s.previous (r.c ∷ r.after)) (l.c ∷ l.back) (shown 0 cs) r.before_is (ap (shown 0) r.parts ∙ shown_both 0 begins r.before (r.c ∷ r.after) refl) (sym (shown_is cs) ∙ sym (all_is f l)) in
      let stands : StandsHere s u (l.c ∷ l.back) = subst (StandsHere s u) more (subst (λ (v : List ℕ). StandsHere s v (shown s.previous (r.c ∷ r.after))) r.before_is (after_some r.before (r.c ∷ r.after) r.parts)) in
      record { before = r.before; after = r.after; c = r.c; parts = r.parts; there = stands_there f l s r.c r.loud r.read_is stands }

  later_there : (fs : List Finding) → AreLeft lines macros read.begun (place_past start h) body fs → All (λ (f : Finding). is_error f.code ≡ true → IsLeftOutThere limits bytes heads f) fs
  later_there [] a = All-nil (λ (f : Finding). is_error f.code ≡ true → IsLeftOutThere limits bytes heads f)
  later_there (f ∷ fs) a = All-cons (λ (f : Finding). is_error f.code ≡ true → IsLeftOutThere limits bytes heads f) f fs (λ e. (let l = a.0 e in let cs = utf8_prefix_of (take limits.input bytes) in one_there f l (shown_at cs begins (h ++ l.front) l.back l.c (sym (shown_is cs) ∙ sym (all_is f l))))) (later_there fs a.1)

  heads_there : (fs : List Finding) → AreOthers fs → All (λ (f : Finding). is_error f.code ≡ true → IsLeftOutThere limits bytes heads f) fs
  heads_there [] a = All-nil (λ (f : Finding). is_error f.code ≡ true → IsLeftOutThere limits bytes heads f)
  heads_there (f ∷ fs) a = All-cons (λ (f : Finding). is_error f.code ≡ true → IsLeftOutThere limits bytes heads f) f fs (λ e. absurd (true≢false (sym e ∙ a.0))) (heads_there fs a.1)

  pub all_there : All (λ (f : Finding). is_error f.code ≡ true → IsLeftOutThere limits bytes heads f) score.findings
  all_there =
      let later = found_later limits head lines macros (place_after text) ending read.begun xs in
      subst (All (λ (f : Finding). is_error f.code ≡ true → IsLeftOutThere limits bytes heads f))
      (sym (of_body.1 ∙ ap (λ (fs : List Finding). heads.findings ++ fs) (later_is limits head lines macros (place_after text) ending xs read.begun)))
      (All-append (λ (f : Finding). is_error f.code ≡ true → IsLeftOutThere limits bytes heads f) heads.findings later
      (heads_there heads.findings (mild_others heads.findings (heads_are limits text heads heads_is).mild))
      (later_there later (later_left limits head lines macros (place_after text) ending body (place_past start h) read.begun)))

-- ---- the laws

pub read_so : (limits : Limits) (bytes : List ℕ) → IsWhatIsRead limits bytes
read_so limits bytes = λ heads before after c x xs e f. what_is_read limits bytes heads e before after c x xs f

-- what is empty stays so
stays_empty : (cs : List ℕ) (s : Reached) → s.kept ≡ [] → (reached_after s cs).kept ≡ []
stays_empty [] s e = e
stays_empty (c ∷ cs) s e = stays_empty cs (beside.past s c) (by (is_silent s c))
  where
    body : (o : Bool) → cond o s.kept (but_first s.kept) ≡ []
    body true = e
    body false = ap but_first e

    shown_by : (o : Bool) → (cond o (beside.past_head s) (beside.past_body s (read_as c))).kept ≡ []
    shown_by true = e
    shown_by false = body (is_some (out_in_body s (read_as c)))

    by : (o : Bool) → (cond o s (beside.past_shown s (read_as c))).kept ≡ []
    by true = e
    by false = shown_by (nat_lt 0 s.heads)

pub found_so : (limits : Limits) (bytes : List ℕ) → AllAreFound limits bytes
found_so limits bytes = by (heads_of limits (text_of_bytes limits.input bytes)) refl
  where
    by : (r : Result Heads HeadFault) → heads_of limits (text_of_bytes limits.input bytes) ≡ r → AllAreFound limits bytes
    by (Err stop) e =
        let ending = ending_by (decoded_of limits true bytes).fault in
        let text = text_of_bytes limits.input bytes in
        stays_empty (utf8_prefix_of (take limits.input bytes)) _ (ap (λ (q : Result Heads HeadFault). kept_characters (score_by limits ending text q).syllables) e)
    by (Ok heads) e =
        subst (λ (q : Result Heads HeadFault). (reached_after (begun (characters_before (head_end_by q) (text_of_bytes limits.input bytes)) (kept_characters (score_of limits (ending_by (decoded_of limits true bytes).fault) (text_of_bytes limits.input bytes)).syllables) (score_of limits (ending_by (decoded_of limits true bytes).fault) (text_of_bytes limits.input bytes)).findings) (utf8_prefix_of (take limits.input bytes))).kept ≡ [])
        (sym e) (all_found limits bytes heads e)

pub left_so : (limits : Limits) (bytes : List ℕ) → AreLeftOutThere limits bytes
left_so limits bytes = λ heads e. all_there limits bytes heads e
