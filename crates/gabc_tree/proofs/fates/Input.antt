-- The characters of an input are gone over beside what is kept, as the text is read.
use Rattle.std.proofs.Common.{◌≡◌, ℕ, zero, suc, ◌+◌, ◌-◌, Bool, true, false, true≢false, cond, not, ◌==◌, List, [], ◌∷◌, ◌++◌, map, filter, length, length-append, drop, Some, None, nat_lt, refl, sym, ap, subst, ◌∙◌, append_assoc, append-nil, ◌⊎◌, inl, inr, arith, if◌then◌else◌}
use Rattle.std.specs.List.{zip}
use Rattle.std.specs.Char.{len_utf8}
use Rattle.std.proofs.lemmas.Bool.{lt-ltb}
use Rattle.std.proofs.lemmas.List.{drop_at}
use Rattle.gabc_places.specs.Place.{next_place, saturating_next_place, place_past, placed_characters_from}
use Rattle.gabc_places.specs.Text.{is_left_out, read_as, text_of_characters}
use Rattle.gabc_places.specs.declared.code.Finding.{Finding}
use Rattle.gabc_places.specs.declared.limits.Limits.{Limits}
use Rattle.gabc_places.specs.declared.place.Char.{Char}
use Rattle.gabc_places.specs.declared.place.Place.{Place}
use Rattle.gabc_body.specs.ReadAlone.{read_of}
use Rattle.gabc_body.specs.Reading.{BodyRead, past}
use Rattle.gabc_body.specs.Reading as read
use Rattle.gabc_body.specs.declared.ending.InputEnding.{InputEnding}
use Rattle.gabc_tree.specs.Fates.{out_by_reading, reached_after}
use Rattle.gabc_tree.specs.NotKept.{Reached, start, from_here, out_in_body, past_shown}
use Rattle.gabc_tree.specs.NotKept as beside
use Rattle.gabc_tree.proofs.fates.Coming.{makes_last}
use Rattle.gabc_tree.proofs.fates.FoundLater.{before_next, from_later}
use Rattle.gabc_tree.proofs.fates.Walk.{at, IsNear, near_next, next_near, Beside, Follows, Goes, goes_past, gone_past}

-- ---- the text of characters

-- those that are shown, after that one
abbrev pub shown : ℕ → List ℕ → List ℕ
shown previous [] = []
shown previous (c ∷ cs) = cond (is_left_out (previous, c)) (shown c cs) (read_as c ∷ shown c cs)

shown_by : (previous : ℕ) (cs : List ℕ) → map (λ (p : ℕ × ℕ). read_as p.1) (filter (λ (p : ℕ × ℕ). not (is_left_out p)) (zip (previous ∷ cs) cs)) ≡ shown previous cs
shown_by previous [] = refl
shown_by previous (c ∷ cs) = by (is_left_out (previous, c)) (shown_by c cs)
  where
    by : (o : Bool) → map (λ (p : ℕ × ℕ). read_as p.1) (filter (λ (p : ℕ × ℕ). not (is_left_out p)) (zip (c ∷ cs) cs)) ≡ shown c cs
        → map (λ (p : ℕ × ℕ). read_as p.1) (if not o then (previous, c) ∷ filter (λ (p : ℕ × ℕ). not (is_left_out p)) (zip (c ∷ cs) cs) else filter (λ (p : ℕ × ℕ). not (is_left_out p)) (zip (c ∷ cs) cs))
        ≡ cond o (shown c cs) (read_as c ∷ shown c cs)
    by true h = h
    by false h = ap (λ (u : List ℕ). read_as c ∷ u) h

pub shown_is : (cs : List ℕ) → text_of_characters cs ≡ shown 0 cs
shown_is cs = shown_by 0 cs

-- ---- places one after the other

pub past_both : (p : Place) (s t : List ℕ) → place_past p (s ++ t) ≡ place_past (place_past p s) t
past_both p [] t = refl
past_both p (c ∷ s) t = past_both (next_place p c) s t

pub placed_both : (p : Place) (s t : List ℕ) → placed_characters_from p (s ++ t) ≡ placed_characters_from p s ++ placed_characters_from (place_past p s) t
placed_both p [] t = refl
placed_both p (c ∷ s) t = ap (λ (xs : List Char). record { c = c; place = p } ∷ xs) (placed_both (next_place p c) s t)

read_both : (lines macros : ℕ) (b : BodyRead) (xs ys : List Char) → read_of lines macros b (xs ++ ys) ≡ read_of lines macros (read_of lines macros b xs) ys
read_both lines macros b [] ys = refl
read_both lines macros b (x ∷ xs) ys = read_both lines macros (past lines macros b x) xs ys

near_past : (p : Place) (u t : List ℕ) → IsNear p (u ++ t) → IsNear (place_past p u) t
near_past p [] t n = n
near_past p (c ∷ u) t n = near_past (next_place p c) u t (near_next p c (u ++ t) n)

pub placed_length : (p : Place) (t : List ℕ) → length (placed_characters_from p t) ≡ length t
placed_length p [] = refl
placed_length p (c ∷ t) = ap suc (placed_length (next_place p c) t)

-- fronts of one length
pub same_front : (u h t v : List ℕ) → length u ≡ length h → u ++ t ≡ h ++ v → (u ≡ h) × (t ≡ v)
same_front [] [] t v e f = (refl, f)
same_front [] (d ∷ h) t v e f = absurd (omega (arith, e))
same_front (c ∷ u) [] t v e f = absurd (omega (arith, e))
same_front (c ∷ u) (d ∷ h) t v e f =
    let n : length u ≡ length h = omega (arith, e) in
    let first : c ≡ d = cc f in
    let rest : u ++ t ≡ h ++ v = cc f in
    let r = same_front u h t v n rest in (cc (first, r.0), r.1)

module _ (limits : Limits) (head lines macros : ℕ) (at_end : Place) (ending : InputEnding) (h body : List ℕ) (kept : List ℕ) (findings : List Finding)
    (to_end : at_end ≡ place_past start (h ++ body)) (near : IsNear start (h ++ body))
    (ready : Beside limits head lines macros at_end ending read.begun (place_past start h) body true kept (from_here (place_past start h) findings)) where
  -- so many characters of the headers are to come
  pub record InHeads (s : Reached) (u : List ℕ) : Type 0 where
    pub more : ℕ
    pub heads_is : s.heads ≡ suc more
    pub count_is : length u + suc more ≡ length h
    pub place_is : s.place ≡ place_past start u
    pub kept_is : s.kept ≡ kept
    pub findings_are : s.findings ≡ from_here (place_past start u) findings

  -- these characters of the body were read
  pub record InBody (s : Reached) (u t : List ℕ) : Type 0 where
    pub gone : List ℕ
    pub all_is : u ≡ h ++ gone
    pub heads_is : s.heads ≡ 0
    pub place_is : s.place ≡ place_past start u
    pub beside : Beside limits head lines macros at_end ending (read_of lines macros read.begun (placed_characters_from (place_past start h) gone)) (place_past start u) t s.comment s.kept s.findings

  abbrev pub Stands : Reached → List ℕ → List ℕ → Type 0
  Stands s u t = InHeads s u ⊎ InBody s u t

  -- the character before and the byte do not matter
  moved : (s : Reached) (u t : List ℕ) (previous byte : ℕ) → Stands s u t → Stands (record s { previous = previous; byte = byte }) u t
  moved s u t previous byte (inl i) = inl (record { more = i.more; heads_is = i.heads_is; count_is = i.count_is; place_is = i.place_is; kept_is = i.kept_is; findings_are = i.findings_are })
  moved s u t previous byte (inr i) = inr (record { gone = i.gone; all_is = i.all_is; heads_is = i.heads_is; place_is = i.place_is; beside = i.beside })

  end_here : (u t : List ℕ) → u ++ t ≡ h ++ body → at_end ≡ place_past (place_past start u) t
  end_here u t e = to_end ∙ (ap (place_past start) (sym e) ∙ past_both start u t)

  near_here : (u t : List ℕ) → u ++ t ≡ h ++ body → IsNear (place_past start u) t
  near_here u t e = near_past start u t (subst (IsNear start) (sym e) near)

  -- ---- one character more of the headers

  head_step : (s : Reached) (u t : List ℕ) (c : ℕ) → u ++ c ∷ t ≡ h ++ body → InHeads s u → Stands (past_shown s c) (u ++ c ∷ []) t
  head_step s u t c e i = by i.more i.heads_is i.count_is
    where
      next_is : place_past start (u ++ c ∷ []) ≡ next_place (place_past start u) c
      next_is = past_both start u (c ∷ [])

      place_then : saturating_next_place s.place c ≡ place_past start (u ++ c ∷ [])
      place_then = ap (λ (q : Place). saturating_next_place q c) i.place_is ∙ (next_near (place_past start u) c t (near_here u (c ∷ t) e) ∙ sym next_is)

      -- the record before the character
      as_head : (more : ℕ) → s.heads ≡ suc more → nat_lt 0 s.heads ≡ true
      as_head more f = lt-ltb 0 s.heads (omega (arith, f))

      findings_then : from_here (saturating_next_place s.place c) s.findings ≡ from_here (place_past start (u ++ c ∷ [])) findings
      findings_then =
          ap (λ (q : Place). from_here q s.findings) (place_then ∙ next_is) ∙ (ap (from_here (next_place (place_past start u) c)) i.findings_are
          ∙ (from_later (place_past start u) (next_place (place_past start u) c) findings (before_next (place_past start u) c) ∙ ap (λ (q : Place). from_here q findings) (sym next_is)))

      kept_then : (o : Bool) → o ≡ true → (cond o (beside.past_head s) (beside.past_body s c)).kept ≡ kept
      kept_then true f = i.kept_is
      kept_then false f = absurd (true≢false (sym f))

      heads_then : (o : Bool) → o ≡ true → (cond o (beside.past_head s) (beside.past_body s c)).heads ≡ s.heads - 1
      heads_then true f = refl
      heads_then false f = absurd (true≢false (sym f))

      comment_then : (o : Bool) → o ≡ true → (cond o (beside.past_head s) (beside.past_body s c)).comment ≡ (s.heads == 1)
      comment_then true f = refl
      comment_then false f = absurd (true≢false (sym f))

      long : length (u ++ c ∷ []) ≡ length u + 1
      long = length-append u (c ∷ [])

      by : (more : ℕ) → s.heads ≡ suc more → length u + suc more ≡ length h → Stands (past_shown s c) (u ++ c ∷ []) t
      by (suc more) f count = inl (record {
        more = more;
        heads_is = heads_then (nat_lt 0 s.heads) (as_head (suc more) f) ∙ (let g = f in omega (arith, g));
        count_is = omega (arith, count, long);
        place_is = place_then;
        kept_is = kept_then (nat_lt 0 s.heads) (as_head (suc more) f);
        findings_are = findings_then;
      })
      by zero f count =
          let r = same_front (u ++ c ∷ []) h t body (omega (arith, count, long)) (append_assoc u (c ∷ []) t ∙ e) in
          let comment_is : (cond (nat_lt 0 s.heads) (beside.past_head s) (beside.past_body s c)).comment ≡ true = comment_then (nat_lt 0 s.heads) (as_head 0 f) ∙ ap (λ (n : ℕ). n == 1) f in
          inr (record {
            gone = [];
            all_is = r.0 ∙ sym (append-nil h);
            heads_is = heads_then (nat_lt 0 s.heads) (as_head 0 f) ∙ (let g = f in omega (arith, g));
            place_is = place_then;
            beside =
                subst (λ (o : Bool). Beside limits head lines macros at_end ending read.begun (place_past start (u ++ c ∷ [])) t o (past_shown s c).kept (past_shown s c).findings) (sym comment_is)
                (subst (λ (ks : List ℕ). Beside limits head lines macros at_end ending read.begun (place_past start (u ++ c ∷ [])) t true ks (past_shown s c).findings) (sym (kept_then (nat_lt 0 s.heads) (as_head 0 f)))
                (subst (λ (fs : List Finding). Beside limits head lines macros at_end ending read.begun (place_past start (u ++ c ∷ [])) t true kept fs) (sym findings_then)
                (subst (λ (a : List ℕ). Beside limits head lines macros at_end ending read.begun (place_past start a) t true kept (from_here (place_past start a) findings)) (sym r.0)
                (subst (λ (a : List ℕ). Beside limits head lines macros at_end ending read.begun (place_past start h) a true kept (from_here (place_past start h) findings)) (sym r.1) ready))));
          })

  -- ---- one character more of the body

  abbrev x_at : List ℕ → ℕ → Char
  x_at u c = record { c = c; place = place_past start u }

  abbrev read_to : List ℕ → BodyRead
  read_to gone = read_of lines macros read.begun (placed_characters_from (place_past start h) gone)

  as_at : (s : Reached) (p : Place) → s.heads ≡ 0 → s.place ≡ p → s ≡ at s.previous s.byte p s.comment s.kept s.findings
  as_at s p e f =
      ap (λ (n : ℕ). let r : Reached = record s { heads = n } in r) e
      ∙ ap (λ (q : Place). at s.previous s.byte q s.comment s.kept s.findings) f

  read_more : (u gone : List ℕ) (c : ℕ) → u ≡ h ++ gone → past lines macros (read_to gone) (x_at u c) ≡ read_to (gone ++ c ∷ [])
  read_more u gone c e =
      let p : place_past (place_past start h) gone ≡ place_past start u = sym (past_both start h gone) ∙ ap (place_past start) (sym e) in
      ap (λ (q : Place). past lines macros (read_to gone) (record { c = c; place = q })) (sym p)
      ∙ (sym (read_both lines macros read.begun (placed_characters_from (place_past start h) gone) (record { c = c; place = place_past (place_past start h) gone } ∷ []))
      ∙ ap (read_of lines macros read.begun) (sym (placed_both (place_past start h) gone (c ∷ []))))

  -- what is gone past with the character
  body_goes : (s : Reached) (u t : List ℕ) (c : ℕ) → u ++ c ∷ t ≡ h ++ body → (i : InBody s u (c ∷ t))
      → Goes limits head lines macros at_end ending s.previous s.byte (read_to i.gone) (place_past start u) c t s.comment s.kept s.findings
  body_goes s u t c e i = elim i.beside [
    | inl none ↦ goes_past limits head lines macros at_end ending s.previous s.byte (read_to i.gone) (place_past start u) c t s.comment s.kept s.findings (near_here u (c ∷ t) e) none
    | inr f ↦ by s.kept refl f
  ]
    where
      by : (ks : List ℕ) → s.kept ≡ ks → Follows limits head lines macros at_end ending (read_to i.gone) (place_past start u) (c ∷ t) s.comment s.kept s.findings
          → Goes limits head lines macros at_end ending s.previous s.byte (read_to i.gone) (place_past start u) c t s.comment s.kept s.findings
      by [] n f = goes_past limits head lines macros at_end ending s.previous s.byte (read_to i.gone) (place_past start u) c t s.comment s.kept s.findings (near_here u (c ∷ t) e) n
      by (d ∷ ks) n f =
          subst (λ (js : List ℕ). Goes limits head lines macros at_end ending s.previous s.byte (read_to i.gone) (place_past start u) c t s.comment js s.findings) (sym n)
          (gone_past limits head lines macros at_end ending s.previous s.byte (read_to i.gone) (place_past start u) c t s.comment d ks s.findings (near_here u (c ∷ t) e) (end_here u (c ∷ t) e)
          (subst (λ (js : List ℕ). Follows limits head lines macros at_end ending (read_to i.gone) (place_past start u) (c ∷ t) s.comment js s.findings) n f)).goes

  body_step : (s : Reached) (u t : List ℕ) (c : ℕ) → u ++ c ∷ t ≡ h ++ body → InBody s u (c ∷ t) → Stands (past_shown s c) (u ++ c ∷ []) t
  body_step s u t c e i =
      let g = body_goes s u t c e i in
      let next_is : place_past start (u ++ c ∷ []) ≡ next_place (place_past start u) c = past_both start u (c ∷ []) in
      let is : past_shown s c ≡ at s.previous s.byte (next_place (place_past start u) c) g.comment_then g.kept_then g.findings_then = ap (λ (r : Reached). past_shown r c) (as_at s (place_past start u) i.heads_is i.place_is) ∙ g.is in
      subst (λ (r : Reached). Stands r (u ++ c ∷ []) t) (sym is)
      (inr (record {
        gone = i.gone ++ c ∷ [];
        all_is = ap (λ (v : List ℕ). v ++ c ∷ []) i.all_is ∙ append_assoc h i.gone (c ∷ []);
        heads_is = refl;
        place_is = sym next_is;
        beside =
            subst (λ (q : Place). Beside limits head lines macros at_end ending (read_to (i.gone ++ c ∷ [])) q t g.comment_then g.kept_then g.findings_then) (sym next_is)
            (subst (λ (b : BodyRead). Beside limits head lines macros at_end ending b (next_place (place_past start u) c) t g.comment_then g.kept_then g.findings_then) (read_more u i.gone c i.all_is) g.beside);
      }))

  shown_step : (s : Reached) (u t : List ℕ) (c : ℕ) → u ++ c ∷ t ≡ h ++ body → Stands s u (c ∷ t) → Stands (past_shown s c) (u ++ c ∷ []) t
  shown_step s u t c e (inl i) = head_step s u t c e i
  shown_step s u t c e (inr i) = body_step s u t c e i

  -- ---- the characters of an input

  pub after_characters : (cs more : List ℕ) (s : Reached) (u t : List ℕ) → u ++ t ≡ h ++ body → Stands s u t → shown s.previous (cs ++ more) ≡ t
      → Stands (reached_after s cs) (u ++ shown s.previous cs) (shown (reached_after s cs).previous more)
  after_characters [] more s u t e i f = subst (λ (v : List ℕ). Stands s v (shown s.previous more)) (sym (append-nil u)) (subst (Stands s u) (sym f) i)
  after_characters (c ∷ cs) more s u t e i f =
      by (is_left_out (s.previous, c)) f (λ r v w g j k. after_characters cs more r v w g j k)
    where
      by : (o : Bool) → cond o (shown c (cs ++ more)) (read_as c ∷ shown c (cs ++ more)) ≡ t
          → ((r : Reached) (v w : List ℕ) → v ++ w ≡ h ++ body → Stands r v w → shown r.previous (cs ++ more) ≡ w → Stands (reached_after r cs) (v ++ shown r.previous cs) (shown (reached_after r cs).previous more))
          → let r : Reached = record (cond o s (past_shown s (read_as c))) { previous = c; byte = s.byte + len_utf8 c } in
          Stands (reached_after r cs) (u ++ cond o (shown c cs) (read_as c ∷ shown c cs)) (shown (reached_after r cs).previous more)
      by true g later = later (record s { previous = c; byte = s.byte + len_utf8 c }) u t e (moved s u t c (s.byte + len_utf8 c) i) g
      by false g later =
          let r : Reached = record (past_shown s (read_as c)) { previous = c; byte = s.byte + len_utf8 c } in
          let d = read_as c in
          let w = shown c (cs ++ more) in
          let all : u ++ d ∷ w ≡ h ++ body = ap (λ (v : List ℕ). u ++ v) g ∙ e in
          subst (λ (v : List ℕ). Stands (reached_after r cs) v (shown (reached_after r cs).previous more)) (append_assoc u (d ∷ []) (shown c cs))
          (later r (u ++ d ∷ []) w (append_assoc u (d ∷ []) w ∙ all)
          (moved (past_shown s d) (u ++ d ∷ []) w c (s.byte + len_utf8 c) (shown_step s u w d all (subst (Stands s u) (sym g) i))) refl)

  -- ---- what is not kept is what is read

  pub out_is_read : (s : Reached) (u t : List ℕ) (c : ℕ) → u ++ c ∷ t ≡ h ++ body → Stands s u (c ∷ t) → s.heads ≡ 0 → (s.kept ≡ [] → ⊥)
      → out_in_body s c ≡ out_by_reading lines macros (read_of lines macros read.begun (drop (length h) (placed_characters_from start u))) (x_at u c) (placed_characters_from (place_past start (u ++ c ∷ [])) t)
  out_is_read s u t c e (inl i) none some = absurd (let f = i.heads_is in omega (arith, none, f))
  out_is_read s u t c e (inr i) none some = elim i.beside [
    | inl empty ↦ absurd (some empty)
    | inr f ↦ by s.kept refl f
  ]
    where
      gone_is : read_to i.gone ≡ read_of lines macros read.begun (drop (length h) (placed_characters_from start u))
      gone_is =
          ap (read_of lines macros read.begun)
          (sym (drop_at (placed_characters_from start h) (placed_characters_from (place_past start h) i.gone) (length h) (placed_length start h))
          ∙ ap (drop (length h)) (sym (placed_both start h i.gone) ∙ ap (placed_characters_from start) (sym i.all_is)))

      by : (ks : List ℕ) → s.kept ≡ ks → Follows limits head lines macros at_end ending (read_to i.gone) (place_past start u) (c ∷ t) s.comment s.kept s.findings
          → out_in_body s c ≡ out_by_reading lines macros (read_of lines macros read.begun (drop (length h) (placed_characters_from start u))) (x_at u c) (placed_characters_from (place_past start (u ++ c ∷ [])) t)
      by [] n f = absurd (some n)
      by (d ∷ ks) n f =
          let g = gone_past limits head lines macros at_end ending s.previous s.byte (read_to i.gone) (place_past start u) c t s.comment d ks s.findings (near_here u (c ∷ t) e) (end_here u (c ∷ t) e)
          (subst (λ (js : List ℕ). Follows limits head lines macros at_end ending (read_to i.gone) (place_past start u) (c ∷ t) s.comment js s.findings) n f) in
          ap (λ (r : Reached). out_in_body r c) (as_at s (place_past start u) i.heads_is i.place_is)
          ∙ (ap (λ (js : List ℕ). out_in_body (at s.previous s.byte (place_past start u) s.comment js s.findings) c) n
          ∙ (g.out_is
          ∙ (ap (λ (q : Place). out_by_reading lines macros (read_to i.gone) (x_at u c) (placed_characters_from q t)) (sym (past_both start u (c ∷ [])))
          ∙ ap (λ (b : BodyRead). out_by_reading lines macros b (x_at u c) (placed_characters_from (place_past start (u ++ c ∷ [])) t)) gone_is)))

  -- all that is kept is found
  pub found_all : (s : Reached) (u : List ℕ) → u ≡ h ++ body → Stands s u [] → s.kept ≡ []
  found_all s u e (inl i) = absurd (let f = i.count_is in let g = ap length e ∙ length-append h body in omega (arith, f, g))
  found_all s u e (inr i) = elim i.beside [ inl none ↦ none | inr f ↦ by (makes_last limits head at_end ending (read_to i.gone)) f.coming_is ]
    where
      by : (o : Bool) → cond o (Some []) None ≡ Some s.kept → s.kept ≡ []
      by true f = cc
      by false f = absurd (cc)
