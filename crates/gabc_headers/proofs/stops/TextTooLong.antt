-- Where the text is too long, and the place after a text.
use Rattle.std.proofs.Common.{◌≡◌, ℕ, ◌+◌, ◌-◌, ◌<◌, ◌≤◌, suc, List, [], ◌∷◌, ◌++◌, length, take, get_or, Bool, true, false, cond, ◌&&◌, ◌||◌, ◌==◌, nat_lt, Some, ap, ◌∙◌, arith, length-append, append_assoc}
use Rattle.std.specs.Option.{option_map}
use Rattle.std.specs.Char.{len_utf8}
use Rattle.std.proofs.Math.Seq.{take-append_seam, get_or-append_seam}
use Rattle.std.proofs.lemmas.Bool.Decides.{nat_tests}
use Rattle.std.proofs.lemmas.List.Sums.{sum_by-cons}
use Rattle.gabc_places.specs.declared.code.Code.TheVariants.{F4}
use Rattle.gabc_places.specs.Findings.{Stop}
use Rattle.gabc_places.specs.Place.{place_after}
use Rattle.gabc_headers.specs.Lines.{bytes_len}
use Rattle.gabc_headers.specs.Heads.{head_len, first_above, too_long, text_stops, stop_at, is_line_percent}
use Rattle.gabc_headers.proofs.groups.TextBeforeScore.{head_text, head_length, head_prefix}
use Rattle.gabc_headers.proofs.stops.SufficientLimitsGiveSameHeaders.{none_above}

-- ---- the first character above the limit

-- the first character above the limit
above_at : (limit : ℕ) (done r : List ℕ) (c : ℕ) → bytes_len done ≤ limit → limit < bytes_len done + len_utf8 c → first_above limit (done ++ c ∷ r) ≡ Some (length done)
above_at limit [] r c h l = grind arith
above_at limit (d ∷ done) r c h l =
    let q : bytes_len (d ∷ done) ≡ len_utf8 d + bytes_len done = sum_by-cons len_utf8 d done in
    let e : nat_lt limit (len_utf8 d) ≡ false = grind (arith, nat_tests) in
    let n : length done + 1 ≡ suc (length done) = omega arith in
    ap (λ (b : Bool). cond b (Some 0) (option_map (λ (n : ℕ). n + 1) (first_above (limit - len_utf8 d) (done ++ c ∷ r)))) e
    ∙ (ap (option_map (λ (n : ℕ). n + 1)) (above_at (limit - len_utf8 d) done r c (omega arith) (omega arith)) ∙ ap (λ (x : ℕ). Some x) n)

-- ---- the stop of a text that is too long

-- the text before the line `%%`
pub take_head : (t : List ℕ) → take (head_len t) t ≡ head_text true t
take_head t =
    let f = head_prefix true t in
    ap (λ (n : ℕ). take n t) (head_length t) ∙ (ap (take (length (head_text true t))) f.1 ∙ take-append_seam (head_text true t) f.0)

-- a text within the limit does not stop
pub stops_none : (limit : ℕ) (t : List ℕ) → bytes_len (head_text true t) ≤ limit → text_stops limit t ≡ []
stops_none limit t h = ap (λ (x : List ℕ). too_long t (first_above limit x)) (take_head t) ∙ ap (too_long t) (none_above limit (head_text true t) h)

-- a text above the limit stops by that character
stops_by : (limit : ℕ) (t done r : List ℕ) (c : ℕ) → head_text true t ≡ done ++ c ∷ r → bytes_len done ≤ limit → limit < bytes_len done + len_utf8 c
    → text_stops limit t ≡ too_long t (Some (length done))
stops_by limit t done r c e h l = ap (λ (x : List ℕ). too_long t (first_above limit x)) (take_head t ∙ e) ∙ ap (too_long t) (above_at limit done r c h l)

-- ---- a line's start

-- whether the text that follows these characters begins a line
abbrev pub Begins : List ℕ → Bool → Type 0
Begins done starts = (x : List ℕ) → ((length done == 0) || (get_or (done ++ x) (length done - 1) 0 == 10)) ≡ starts

-- an LF begins a line, and nothing else does
pub begins_push : (done : List ℕ) (c : ℕ) → Begins (done ++ c ∷ []) (c == 10)
begins_push done c x =
    let l = length-append done (c ∷ []) in
    let z : (length (done ++ c ∷ []) == 0) ≡ false = grind (arith, nat_tests) in
    let n : length (done ++ c ∷ []) - 1 ≡ length done = omega arith in
    ap (λ (b : Bool). b || (get_or ((done ++ c ∷ []) ++ x) (length (done ++ c ∷ []) - 1) 0 == 10)) z
    ∙ (ap (λ (k : ℕ). get_or ((done ++ c ∷ []) ++ x) k 0 == 10) n
    ∙ (ap (λ (y : List ℕ). get_or y (length done) 0 == 10) (append_assoc done (c ∷ []) x) ∙ ap (λ (k : ℕ). k == 10) (get_or-append_seam done c x 0)))

-- whether a `%` that begins a line stands here
line_percent : (t done r : List ℕ) (c : ℕ) (starts : Bool) → t ≡ done ++ c ∷ r → Begins done starts → is_line_percent t (length done) ≡ ((c == 37) && starts)
line_percent t done r c starts e b = grind (arith, get_or-append_seam)

module _ (limit : ℕ) (t done r : List ℕ) (c : ℕ) (starts : Bool) (e : t ≡ done ++ c ∷ r) (b : Begins done starts) where
  -- the text before the character
  prefix : take (length done) t ≡ done
  prefix = ap (take (length done)) e ∙ take-append_seam done (c ∷ r)

  -- the character with which the text is too long
  pub stops_here : (back : List ℕ) → head_text true t ≡ done ++ c ∷ back → bytes_len done ≤ limit → limit < bytes_len done + len_utf8 c → ((c == 37) && starts) ≡ false
      → text_stops limit t ≡ stop_at (length done) (place_after done) F4 ∷ []
  stops_here back h k l q = stops_by limit t done back c h k l
      ∙ (ap (λ (x : Bool). cond {A = List Stop} x (cond (nat_lt (length done + 1) (length t)) (stop_at (length done + 1) (place_after (take (length done) t)) F4 ∷ []) []) (stop_at (length done) (place_after (take (length done) t)) F4 ∷ []))
      (line_percent t done r c starts e b ∙ q)
      ∙ ap (λ (x : List ℕ). stop_at (length done) (place_after x) F4 ∷ []) prefix)

  -- a `%` at the start of a line, with which the text is too long
  pub stops_held : (back : List ℕ) → head_text true t ≡ done ++ c ∷ back → bytes_len done ≤ limit → limit < bytes_len done + len_utf8 c → ((c == 37) && starts) ≡ true
      → text_stops limit t ≡ cond (nat_lt (length done + 1) (length t)) (stop_at (length done + 1) (place_after done) F4 ∷ []) []
  stops_held back h k l q = stops_by limit t done back c h k l
      ∙ (ap (λ (x : Bool). cond {A = List Stop} x (cond (nat_lt (length done + 1) (length t)) (stop_at (length done + 1) (place_after (take (length done) t)) F4 ∷ []) []) (stop_at (length done) (place_after (take (length done) t)) F4 ∷ []))
      (line_percent t done r c starts e b ∙ q)
      ∙ ap (λ (x : List ℕ). cond (nat_lt (length done + 1) (length t)) (stop_at (length done + 1) (place_after x) F4 ∷ []) []) prefix)
