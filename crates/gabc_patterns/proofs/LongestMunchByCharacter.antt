-- Reading by the longest item, a character at a time.
use Rattle.std.proofs.Common.{◌≡◌, ℕ, ◌⊎◌, inl, inr, List, [], ◌∷◌, ◌++◌, Bool, true, false, cond, refl, sym, ap, subst, append-nil, arith}
use Rattle.gabc_patterns.specs.Pattern.{Pattern, Spells}
use Rattle.gabc_patterns.specs.LongestItems.{Table, Longest, IsItem, IsSnippet, IsViable}
use Rattle.gabc_patterns.specs.Derivative.{derivative, possible, rows_after, rows_end, Munch, start, nowhere, within, enter, step, run, is_whole, is_alive}
use Rattle.gabc_patterns.specs.ItemsRead.{NoneBegins}
use Rattle.gabc_patterns.proofs.PartsOfNothing.{append_none}
use Rattle.gabc_patterns.proofs.RowsAfterACharacter.{possible_from, rows_to, rows_from, rows_end_to, rows_end_from}

-- ---- what may follow

-- the item goes on, to its longest, and a snippet comes after it
abbrev pub GoesOn : {K : Type 0} → Table K → Table K → List ℕ → Type 0
GoesOn table rows w = (c : ℕ) × (x y : List ℕ) × (w ≡ (c ∷ x) ++ y) × Longest (IsItem rows) (c ∷ x) y × IsSnippet table y

-- the item does not go on
abbrev pub Ended : {K : Type 0} → Table K → List ℕ → Type 0
Ended rows w = (x y : List ℕ) → w ≡ x ++ y → IsItem rows x → x ≡ []

-- what follows where the reading stands so that all is a snippet
abbrev pub Follows : {K : Type 0} → Table K → Munch K → List ℕ → Type 0
Follows table start w = IsSnippet table w
Follows table nowhere w = ⊥
Follows table (within rows back) w = GoesOn table rows w ⊎ (Ended rows w × Follows table back w)

-- the same, where the rows may spell the empty text too
abbrev pub Here : {K : Type 0} → Table K → Table K → List ℕ → Type 0
Here table rows w = (x y : List ℕ) × (w ≡ x ++ y) × Longest (IsItem rows) x y × IsSnippet table y

module _ {K : Type 0} (table : Table K) where
  longest_to : (rows : Table K) (c : ℕ) (x y : List ℕ) → Longest (IsItem rows) (c ∷ x) y → Longest (IsItem (rows_after c rows)) x y
  longest_to rows c x y l = grind (arith, rows_to, rows_from)

  pub longest_from : (rows : Table K) (c : ℕ) (x y : List ℕ) → Longest (IsItem (rows_after c rows)) x y → Longest (IsItem rows) (c ∷ x) y
  longest_from rows c x y l = grind (arith, rows_from, rows_to)

  here_to : (rows : Table K) (c : ℕ) (w : List ℕ) → GoesOn table rows (c ∷ w) → Here table (rows_after c rows) w
  here_to rows c w (d, x, y, e, l, s) =
      let ed : d ≡ c = cc in
      let ew : w ≡ x ++ y = cc in
      (x, y, ew, longest_to rows c x y (subst (λ k. Longest (IsItem rows) (k ∷ x) y) ed l), s)

  here_from : (rows : Table K) (c : ℕ) (w : List ℕ) → Here table (rows_after c rows) w → GoesOn table rows (c ∷ w)
  here_from rows c w (x, y, e, l, s) = (c, x, y, ap (λ (u : List ℕ). c ∷ u) e, longest_from rows c x y l, s)

  not_here_to : (rows : Table K) (c : ℕ) (w : List ℕ) → Ended rows (c ∷ w) → NoneBegins (rows_after c rows) w
  not_here_to rows c w h x y e i =
      let f = h (c ∷ x) y (ap (λ (u : List ℕ). c ∷ u) e) (i.0, rows_from rows i.0 c x i.1) in
      absurd (cc)

  not_here_from : (rows : Table K) (c : ℕ) (w : List ℕ) → NoneBegins (rows_after c rows) w → Ended rows (c ∷ w)
  not_here_from rows c w h [] y e i = refl
  not_here_from rows c w h (d ∷ x) y e i = grind (arith, rows_to)

  -- an item that may end here
  ends_to : (rows : Table K) (back : Munch K) (w : List ℕ) (b : Bool) → rows_end rows ≡ b
      → Here table rows w ⊎ (NoneBegins rows w × Follows table back w) → Follows table (within rows (cond b start back)) w
  ends_to rows back w b e (inl ((d ∷ x), y, f, l, s)) = inl (d, x, y, f, l, s)
  ends_to rows back w true e (inl ([], y, f, l, s)) = grind arith
  ends_to rows back w false e (inl ([], y, f, l, s)) = absurd (let h = rows_end_to rows l.has.0 l.has.1 in cc)
  ends_to rows back w true e (inr h) = absurd (h.0 [] w refl (rows_end_from rows e))
  ends_to rows back w false e (inr h) = inr ((λ x y f i. absurd (h.0 x y f i)), h.1)

  ends_from : (rows : Table K) (back : Munch K) (w : List ℕ) (b : Bool) → rows_end rows ≡ b
      → Follows table (within rows (cond b start back)) w → Here table rows w ⊎ (NoneBegins rows w × Follows table back w)
  ends_from rows back w b e h = grind (arith, rows_end_from, rows_end_to)

  enter_to : (rows : Table K) (back : Munch K) (w : List ℕ)
      → Here table rows w ⊎ (NoneBegins rows w × Follows table back w) → Follows table (enter rows back) w
  enter_to [] back w (inl h) = absurd (let l = h.3 in l.has.1)
  enter_to [] back w (inr h) = h.1
  enter_to (row ∷ rows) back w h = ends_to (row ∷ rows) back w (rows_end (row ∷ rows)) refl h

  enter_from : (rows : Table K) (back : Munch K) (w : List ℕ)
      → Follows table (enter rows back) w → Here table rows w ⊎ (NoneBegins rows w × Follows table back w)
  enter_from [] back w h = inr ((λ x y e i. i.1), h)
  enter_from (row ∷ rows) back w h = ends_from (row ∷ rows) back w (rows_end (row ∷ rows)) refl h

  -- ---- a snippet begins with an item

  module _ (none_empty : rows_end table ≡ false) where
    -- a snippet that is not empty begins with its longest item
    pub first_item : (c : ℕ) (w : List ℕ) → IsSnippet table (c ∷ w) → GoesOn table table (c ∷ w)
    first_item c w ([], e) = absurd (cc)
    first_item c w (((k, []) ∷ is), (rest, e, i, l, r)) = absurd (let h = rows_end_to table k i in cc)
    first_item c w (((k, (d ∷ x)) ∷ is), (rest, e, i, l, r)) = (d, x, rest, e, l, (is, r))

    -- the longest item, and a snippet after it, are a snippet
    pub then_item : (w : List ℕ) → GoesOn table table w → IsSnippet table w
    then_item w (c, x, y, e, l, s) = (((l.has.0, c ∷ x) ∷ s.0), (y, e, l.has.1, l, s.1))

    step_to : (m : Munch K) (c : ℕ) (w : List ℕ) → Follows table m (c ∷ w) → Follows table (step table m c) w
    step_to start c w h = enter_to (rows_after c table) nowhere w (inl (here_to table c w (first_item c w h)))
    step_to nowhere c w h = h
    step_to (within rows back) c w (inl h) = enter_to (rows_after c rows) (step table back c) w (inl (here_to rows c w h))
    step_to (within rows back) c w (inr h) = enter_to (rows_after c rows) (step table back c) w (inr (not_here_to rows c w h.0, step_to back c w h.1))

    step_from : (m : Munch K) (c : ℕ) (w : List ℕ) → Follows table (step table m c) w → Follows table m (c ∷ w)
    step_from start c w h = grind (arith, enter_from, then_item, here_from)
    step_from nowhere c w h = h
    step_from (within rows back) c w h =
        elim (enter_from (rows_after c rows) (step table back c) w h) [
          | inl x ↦ inl (here_from rows c w x)
          | inr x ↦ inr (not_here_from rows c w x.0, step_from back c w x.1)
        ]

    run_to : (m : Munch K) (t w : List ℕ) → Follows table m (t ++ w) → Follows table (run table m t) w
    run_to m [] w h = h
    run_to m (c ∷ t) w h = run_to (step table m c) t w (step_to m c (t ++ w) h)

    run_from : (m : Munch K) (t w : List ℕ) → Follows table (run table m t) w → Follows table m (t ++ w)
    run_from m [] w h = h
    run_from m (c ∷ t) w h = step_from m c (t ++ w) (run_from (step table m c) t w h)

    whole_to : (m : Munch K) → Follows table m [] → is_whole m ≡ true
    whole_to start h = refl
    whole_to nowhere h = absurd h
    whole_to (within rows back) (inl (c, x, y, e, l, s)) = absurd (cc)
    whole_to (within rows back) (inr h) = whole_to back h.1

    whole_from : (m : Munch K) → is_whole m ≡ true → Follows table m []
    whole_from start e = ([], refl)
    whole_from nowhere e = absurd (cc)
    whole_from (within rows back) e = inr ((λ x y f i. (append_none x y f).0), whole_from back e)

    -- a text is a snippet just where the reader says so
    pub snippet_to : (t : List ℕ) → IsSnippet table t → is_whole (run table start t) ≡ true
    snippet_to t h = whole_to (run table start t) (run_to start t [] (subst (IsSnippet table) (sym (append-nil t)) h))

    -- a text that the reader finds whole is a snippet
    pub snippet_from : (t : List ℕ) → is_whole (run table start t) ≡ true → IsSnippet table t
    snippet_from t e = subst (IsSnippet table) (append-nil t) (run_from start t [] (whole_from (run table start t) e))

    -- ---- a place from which the reading goes on

    Good : Munch K → Type 0
    Good m = is_alive m ≡ true → (w : List ℕ) × Follows table m w

    good_rows : (row : K × Pattern) (rows : Table K) (back : Munch K) (x : List ℕ) (b : Bool) → rows_end (row ∷ rows) ≡ b → Spells row.1 x → Good (within (row ∷ rows) (cond b start back))
    unfolding Good
    good_rows row rows back [] true e h a = ([], inr ((λ x y f i. (append_none x y f).0), ([], refl)))
    good_rows row rows back [] false e h a = absurd (let f = rows_end_to (row ∷ rows) row.0 (inl (refl, h)) in cc)
    good_rows row rows back (c ∷ x) b e h a =
        (c ∷ x, inl (c, x, [], sym (append-nil (c ∷ x)), record { has = (row.0, inl (refl, h)); longest = λ more after f i. (append_none more after f).0 }, ([], refl)))

    FirstPossible : Table K → Type 0
    FirstPossible [] = Unit {0}
    FirstPossible (row ∷ rows) = possible row.1 ≡ true

    first_row : (b : Bool) (row : K × Pattern) (rows : Table K) → possible row.1 ≡ b → FirstPossible rows → FirstPossible (cond b (row ∷ rows) rows)
    unfolding FirstPossible
    first_row b row rows e h = grind arith

    first_possible : (c : ℕ) (rows : Table K) → FirstPossible (rows_after c rows)
    unfolding FirstPossible
    first_possible c [] = tt
    first_possible c (row ∷ rows) = first_row (possible (derivative c row.1)) (row.0, derivative c row.1) (rows_after c rows) refl (first_possible c rows)

    good_enter : (rows : Table K) (back : Munch K) → FirstPossible rows → Good back → Good (enter rows back)
    unfolding FirstPossible
    good_enter rows back f h = grind (arith, possible_from, good_rows)

    good_step : (m : Munch K) (c : ℕ) → Good (step table m c)
    unfolding Good
    good_step start c = good_enter (rows_after c table) nowhere (first_possible c table) (λ e. absurd (cc))
    good_step nowhere c = λ e. absurd (cc)
    good_step (within rows back) c = good_enter (rows_after c rows) (step table back c) (first_possible c rows) (good_step back c)

    good_run : (m : Munch K) (t : List ℕ) → Good m → Good (run table m t)
    good_run m [] h = h
    good_run m (c ∷ t) h = good_run (step table m c) t (good_step m c)

    -- a text that the reader finds alive is viable
    pub viable_from : (t : List ℕ) → is_alive (run table start t) ≡ true → IsViable table t
    unfolding Good
    viable_from t e = let g = good_run start t (λ _. ([], ([], refl))) e in (g.0, run_from start t g.0 g.1)

    -- a viable text leaves the reader alive
    pub viable_to : (t : List ℕ) → IsViable table t → is_alive (run table start t) ≡ true
    viable_to t (w, h) = alive (run table start t) (run_to start t w h)
      where
        alive : (m : Munch K) → Follows table m w → is_alive m ≡ true
        alive start x = refl
        alive nowhere x = absurd x
        alive (within rows back) x = refl
