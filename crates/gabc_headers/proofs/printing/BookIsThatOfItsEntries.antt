-- The entries of a book are trimmed and count, no name comes twice in it, and it is the book of its own entries.
use Rattle.std.proofs.Common.{◌≡◌, ℕ, List, [], ◌∷◌, Bool, true, false, cond, not, ◌||◌, bytes_eq, codes, refl, sym, ap, subst, ◌∙◌, None, arith}
use Rattle.std.proofs.lemmas.Bool.{or_parts, or_right}
use Rattle.std.specs.Cmp.Lexicographic.{same_text}
use Rattle.gabc_headers.specs.Parts.{HeaderPart, left_out, header, unended}
use Rattle.gabc_headers.specs.Book.{is_kept, is_one_of, repeats, unless, entries, last_value, value_of, standing_entries}
use Rattle.gabc_headers.specs.Heads.{findings_after, open_line}
use Rattle.gabc_headers.proofs.entries.TextsAsBytes.{bytes_eq_self}
use Rattle.gabc_headers.proofs.printing.EntriesAreTrimmed.{IsName, IsValue, HaveGoodHeaders}

-- an entry that counts
pub record IsEntry (e : List ℕ × List ℕ) : Type 0 where
  pub name : IsName e.0
  pub value : IsValue e.1
  pub kept : is_kept e.0 e.1 ≡ true

abbrev pub AreEntries : List (List ℕ × List ℕ) → Type 0
AreEntries [] = Unit {0}
AreEntries (e ∷ es) = IsEntry e × AreEntries es

pub entries_good : (ps : List HeaderPart) → HaveGoodHeaders ps → AreEntries (entries ps)
entries_good [] h = tt
entries_good (left_out k p ∷ ps) h = entries_good ps h
entries_good (unended k ∷ ps) h = entries_good ps h
entries_good (header k name v p ∷ ps) h = by (is_kept name v) refl (entries_good ps h.1)
  where
    by : (b : Bool) → is_kept name v ≡ b → AreEntries (entries ps) → AreEntries (unless (not b) (name, v) (entries ps))
    by true e g = (record { name = h.0.0; value = h.0.1; kept = e }, g)
    by false e g = g

-- ---- the entries that stand

last_good : (name v : List ℕ) (es : List (List ℕ × List ℕ)) → IsEntry (name, v) → AreEntries es → IsEntry (name, last_value name v es)
last_good name v [] h g = h
last_good name v (e ∷ es) h g = by (bytes_eq name e.0) refl (λ w k. last_good name w es k g.1)
  where
    by : (b : Bool) → bytes_eq name e.0 ≡ b → ((w : List ℕ) → IsEntry (name, w) → IsEntry (name, last_value name w es)) → IsEntry (name, last_value name (cond b e.1 v) es)
    by true f r = r e.1 (subst (λ (x : List ℕ). IsEntry (x, e.1)) (sym (same_text name e.0 (sym f))) g.0)
    by false f r = r v h

value_good : (name v : List ℕ) (es : List (List ℕ × List ℕ)) → IsEntry (name, v) → AreEntries es → IsEntry (name, value_of name v es)
value_good name v es h g = grind (arith, last_good)

pub standing_good : (seen : List (List ℕ)) (es : List (List ℕ × List ℕ)) → AreEntries es → AreEntries (standing_entries seen es)
standing_good seen [] h = tt
standing_good seen (e ∷ es) h = grind (arith, standing_good (e.0 ∷ seen) es h.1, value_good)

-- ---- no name comes again

-- after these names
abbrev pub NoneAgain : List (List ℕ) → List (List ℕ × List ℕ) → Type 0
NoneAgain seen [] = Unit {0}
NoneAgain seen (e ∷ es) = (repeats seen e.0 ≡ false) × NoneAgain (e.0 ∷ seen) es

-- what was seen of these was seen of those
abbrev Among : List (List ℕ) → List (List ℕ) → Type 0
Among few many = (name : List ℕ) → is_one_of name many ≡ false → is_one_of name few ≡ false

repeats_less : (few many : List (List ℕ)) (name : List ℕ) → Among few many → repeats many name ≡ false → repeats few name ≡ false
repeats_less few many name h e = grind arith

among_more : (few many : List (List ℕ)) (n : List ℕ) → Among few many → Among (n ∷ few) (n ∷ many)
among_more few many n h name e = grind (arith, or_parts)

among_later : (few many : List (List ℕ)) (n : List ℕ) → Among few many → Among few (n ∷ many)
among_later few many n h name e = h name (or_parts (bytes_eq name n) (is_one_of name many) e).1

pub standing_once : (few many : List (List ℕ)) (es : List (List ℕ × List ℕ)) → Among few many → NoneAgain few (standing_entries many es)
standing_once few many [] h = tt
standing_once few many (e ∷ es) h = by (repeats many e.0) refl (λ less k. standing_once less (e.0 ∷ many) es k)
  where
    by : (b : Bool) → repeats many e.0 ≡ b → ((less : List (List ℕ)) → Among less (e.0 ∷ many) → NoneAgain less (standing_entries (e.0 ∷ many) es))
        → NoneAgain few (unless b (e.0, value_of e.0 e.1 es) (standing_entries (e.0 ∷ many) es))
    by true f r = r few (among_later few many e.0 h)
    by false f r = (repeats_less few many e.0 h f, r (e.0 ∷ few) (among_more few many e.0 h))

pub book_once : (es : List (List ℕ × List ℕ)) → NoneAgain [] (standing_entries [] es)
book_once es = standing_once [] [] es (λ name e. e)

-- ---- the book of these entries

-- a name that was seen has its last value already
last_is : (seen : List (List ℕ)) (name v : List ℕ) (es : List (List ℕ × List ℕ)) → bytes_eq name (codes "annotation") ≡ false → is_one_of name seen ≡ true → NoneAgain seen es
    → last_value name v es ≡ v
last_is seen name v [] a o h = refl
last_is seen name v (e ∷ es) a o h = by (bytes_eq name e.0) refl (last_is (e.0 ∷ seen) name v es a (or_right (bytes_eq name e.0) (is_one_of name seen) o) h.1)
  where
    by : (b : Bool) → bytes_eq name e.0 ≡ b → last_value name v es ≡ v → last_value name (cond b e.1 v) es ≡ v
    by true f r = absurd (let g : repeats seen name ≡ false = ap (repeats seen) (same_text name e.0 (sym f)) ∙ h.0 in let k : repeats seen name ≡ true = rw (a, o) refl in let l = sym g ∙ k in cc)
    by false f r = r

pub stands_again : (seen : List (List ℕ)) (es : List (List ℕ × List ℕ)) → NoneAgain seen es → standing_entries seen es ≡ es
stands_again seen [] h = refl
stands_again seen (e ∷ es) h =
    ap (λ (b : Bool). unless b (e.0, value_of e.0 e.1 es) (standing_entries (e.0 ∷ seen) es)) h.0
    ∙ ap (λ (x : List (List ℕ × List ℕ)). (e.0, value_of e.0 e.1 es) ∷ x) (stands_again (e.0 ∷ seen) es h.1)
    ∙ ap (λ (v : List ℕ). (e.0, v) ∷ es) (by (bytes_eq e.0 (codes "annotation")) refl)
  where
    by : (b : Bool) → bytes_eq e.0 (codes "annotation") ≡ b → cond b e.1 (last_value e.0 e.1 es) ≡ e.1
    by true f = refl
    by false f = last_is (e.0 ∷ seen) e.0 e.1 es f (ap (λ (b : Bool). b || is_one_of e.0 seen) (bytes_eq_self e.0)) h.1

-- ---- parts that are headers with these names and values

abbrev pub AreHeaders : List HeaderPart → List (List ℕ × List ℕ) → Type 0
AreHeaders [] [] = Unit {0}
AreHeaders (header k name v p ∷ ps) (e ∷ es) = ((name ≡ e.0) × (v ≡ e.1)) × AreHeaders ps es
AreHeaders _ _ = ⊥

pub headers_entries : (ps : List HeaderPart) (es : List (List ℕ × List ℕ)) → AreHeaders ps es → AreEntries es → entries ps ≡ es
headers_entries [] [] h g = refl
headers_entries (header k name v p ∷ ps) (e ∷ es) h g = grind (arith, headers_entries ps es h.1 g.1)
headers_entries _ _ h g = absurd h

-- nothing is found at them
pub headers_found : (seen : List (List ℕ)) (ps : List HeaderPart) (es : List (List ℕ × List ℕ)) → AreHeaders ps es → AreEntries es → NoneAgain seen es → findings_after seen ps ≡ []
headers_found seen [] [] h g n = refl
headers_found seen (header k name v p ∷ ps) (e ∷ es) h g n = grind (arith, headers_found (e.0 ∷ seen) ps es h.1 g.1 n.1)
headers_found seen _ _ h g n = absurd h

-- each of them is ended
pub headers_closed : (ps : List HeaderPart) (es : List (List ℕ × List ℕ)) → AreHeaders ps es → open_line ps ≡ None
headers_closed [] es h = refl
headers_closed (header k name v p ∷ ps) (e ∷ es) h = headers_closed ps es h.1
headers_closed _ _ h = absurd h
