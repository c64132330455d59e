-- The characters that are still to be kept, where the reading stands.
use Rattle.std.proofs.Common.{◌≡◌, ℕ, ◌+◌, zero, suc, Bool, true, false, cond, not, ◌&&◌, ◌==◌, List, [], ◌∷◌, ◌++◌, length, reverse, take, drop, length-append, take-append-drop, Option, Some, None, is_some, nat_le, refl, sym, ap, subst, ◌∙◌, append_assoc, append-nil, arith}
use Rattle.std.specs.List.{flat_map}
use Rattle.std.specs.Option.{option_map, option_map_or}
use Rattle.std.proofs.lemmas.Bool.{leb-true, leb-false}
use Rattle.std.proofs.lemmas.List.{take-append-le, take_all as take_whole}
use Rattle.std.specs.Str.{chars}
use Rattle.std.proofs.lemmas.Bool.{and_parts}
use Rattle.std.proofs.lemmas.Str.{chars-encodes}
use lib.Utf8.{scalar, scalars}
use Rattle.gabc_places.specs.Fate.{Fate, Keep, Comment, Ends, LeaveOut}
use Rattle.gabc_places.specs.declared.code.Finding.{Finding}
use Rattle.gabc_places.specs.declared.limits.Limits.{Limits}
use Rattle.gabc_places.specs.declared.place.Char.{Char}
use Rattle.gabc_places.specs.declared.place.Place.{Place}
use Rattle.gabc_patterns.specs.Reads.{whole_front, longest, is_read}
use Rattle.gabc_patterns.proofs.LongestPrefixIsFound.{scalars_parts}
use Rattle.gabc_text.specs.KeptText.{view_of_kept, belongs}
use Rattle.gabc_text.specs.Token.{tokens, is_blank}
use Rattle.gabc_notes.specs.Table.{gabc}
use Rattle.gabc_nabc.specs.Table.{nabc}
use Rattle.gabc_body.specs.Body.{code_by, has_text}
use Rattle.gabc_body.specs.Reading.{Part, InText, InNotes, Reading, BodyRead, at_start, kept_bytes, kept_as, whole_of, past, code_now, open_by, ended}
use Rattle.gabc_body.specs.Syllable.{UnplacedSyllable}
use Rattle.gabc_body.specs.declared.ending.InputEnding.{InputEnding}
use Rattle.gabc_body.specs.declared.ending.InputEnding.TheVariants.{Whole, Broken, At}
use Rattle.gabc_tree.specs.Fates.{fate_at, ends, kept_at_end, is_cut_by}
use Rattle.gabc_tree.proofs.fates.Steps.{Step, comments, leaves, keeps, opens, splits, closes, Stays, Keeps, Parts, Closes}

-- ---- the end

-- nothing is open at the end, and no limit is passed there
abbrev pub is_whole : Limits → ℕ → Place → InputEnding → BodyRead → Bool
is_whole limits head here Whole b = cond (is_some (open_by b.reading.part b.reading)) false (not (is_some (code_by limits head (ended here b).made (kept_bytes b.reading))))
is_whole limits head here Broken b = false
is_whole limits head here (At fault) b = false

-- a last text is a syllable
abbrev pub makes_last : Limits → ℕ → Place → InputEnding → BodyRead → Bool
makes_last limits head here ending b = is_whole limits head here ending b && has_text (view_of_kept b.reading.kept)

-- what is read of the characters that are to come
abbrev pub read_to_end : Limits → ℕ → ℕ → ℕ → Place → InputEnding → BodyRead → List Char → BodyRead
read_to_end limits head lines macros here ending b [] = cond (is_whole limits head here ending b) (ended here b) b
read_to_end limits head lines macros here ending b (x ∷ xs) =
    let next = past lines macros b x in
    cond (is_some (code_now limits head next)) b (read_to_end limits head lines macros here ending next xs)

-- ---- what is to come

abbrev pub or_none : Option (List ℕ) → List ℕ
or_none None = []
or_none (Some ks) = ks

-- with what comes after the character of which this becomes, if all that is kept of its part is this
abbrev pub with_next : Part → List ℕ → List ℕ → ℕ → Fate → Option (List ℕ) → Option (List ℕ)
with_next part kept all c Keep o = option_map (λ ks. cond (is_cut_by part kept all) ks (kept_as part kept c ∷ ks)) o
with_next part kept all c Comment o = o
with_next part kept all c (LeaveOut code) o = o
with_next InText kept all c Ends o = option_map (λ ks. 40 ∷ ks) o
with_next (InNotes line) kept all c Ends o = cond (c == 124) (option_map (λ ks. c ∷ ks) o) (Some (c ∷ or_none o))

-- The characters that are still to be kept, if the syllable that is read becomes one.
abbrev pub coming : Limits → ℕ → ℕ → ℕ → Place → InputEnding → BodyRead → List Char → Option (List ℕ)
coming limits head lines macros here ending b [] = cond (makes_last limits head here ending b) (Some []) None
coming limits head lines macros here ending b (x ∷ xs) =
    let next = past lines macros b x in
    cond (is_some (code_now limits head next)) None
    (with_next b.reading.part b.reading.kept (kept_at_end lines macros b (x ∷ xs)) x.c (fate_at lines b x) (coming limits head lines macros here ending next xs))

-- ---- what is kept of the syllables

abbrev pub kept_in : List UnplacedSyllable → List ℕ
kept_in made = flat_map (λ (m : UnplacedSyllable). chars m.kept) made

-- what stays of the part that is read
abbrev pub front_by : Part → List ℕ → List ℕ → List ℕ
front_by InText kept all = kept
front_by (InNotes line) kept all = take (length (whole_of line all)) kept

-- what is kept from the beginning of the syllable on
abbrev pub from_syllable : Reading → List ℕ → Option (List ℕ) → List ℕ
from_syllable r all None = []
from_syllable r all (Some ks) = r.before ++ (front_by r.part r.kept all ++ ks)

-- ---- the reading is well

abbrev pub BeginsWith : Part → List ℕ → Type 0
BeginsWith InText before = before ≡ []
BeginsWith (InNotes line) before = Unit {0}

-- nothing stands before a text, and what is kept are scalar values
pub record IsWell (r : Reading) : Type 0 where
  pub first : BeginsWith r.part r.before
  pub before_scalar : scalars r.before ≡ true
  pub kept_scalar : scalars r.kept ≡ true

pub scalars_joined : (a b : List ℕ) → scalars a ≡ true → scalars b ≡ true → scalars (a ++ b) ≡ true
scalars_joined [] b h i = i
scalars_joined (c ∷ a) b h i =
    let p = and_parts (scalar c) (scalars a) h in
    ap (λ (o : Bool). o && scalars (a ++ b)) p.0 ∙ scalars_joined a b p.1 i

take_all : (n : ℕ) (t : List ℕ) → take (length (take n t)) t ≡ take n t
take_all zero t = refl
take_all (suc n) [] = refl
take_all (suc n) (c ∷ t) = ap (λ (u : List ℕ). c ∷ u) (take_all n t)

-- what stays of a snippet is a front of it
front_is : {K : Type 0} (o : Option (K × ℕ)) (t : List ℕ) → let f = option_map_or (λ (i : K × ℕ). take i.1 t) o [] in take (length f) t ≡ f
front_is None t = refl
front_is (Some i) t = take_all i.1 t

pub whole_is_front : (line : ℕ) (kept : List ℕ) → take (length (whole_of line kept)) kept ≡ whole_of line kept
whole_is_front line kept = by (line == 0)
  where
    by : (o : Bool) → take (length (cond o (whole_front gabc kept) (whole_front nabc kept))) kept ≡ cond o (whole_front gabc kept) (whole_front nabc kept)
    by true = front_is (longest (λ (front : List ℕ). cond (is_read gabc front) (Some true) None) (length kept) kept) kept
    by false = front_is (longest (λ (front : List ℕ). cond (is_read nabc front) (Some true) None) (length kept) kept) kept

pub whole_scalar : (line : ℕ) (kept : List ℕ) → scalars kept ≡ true → scalars (whole_of line kept) ≡ true
whole_scalar line kept h =
    let n : ℕ = length (whole_of line kept) in
    let p = scalars_parts (take n kept) (drop n kept) (ap scalars (take-append-drop n kept) ∙ h) in
    ap scalars (sym (whole_is_front line kept)) ∙ p.0

as_scalar : (part : Part) (kept : List ℕ) (c : ℕ) → scalar c ≡ true → scalars (kept_as part kept c ∷ []) ≡ true
as_scalar InText kept c h = by (belongs (reverse (tokens kept)) c) (is_blank c)
  where
    by : (o p : Bool) → scalars (cond o c (cond p 32 c) ∷ []) ≡ true
    by true p = ap (λ (o : Bool). o && true) h
    by false true = refl
    by false false = ap (λ (o : Bool). o && true) h
as_scalar (InNotes line) kept c h = ap (λ (o : Bool). o && true) h

pub ends_scalar : (before kept : List ℕ) (c : ℕ) → scalars before ≡ true → scalars kept ≡ true → scalar c ≡ true → scalars (before ++ (kept ++ c ∷ [])) ≡ true
ends_scalar before kept c h i j = scalars_joined before (kept ++ c ∷ []) h (scalars_joined kept (c ∷ []) i (ap (λ (o : Bool). o && true) j))

pub stays_well : (lines : ℕ) (b : BodyRead) (x : Char) (next : BodyRead) → Step lines b x next → scalar x.c ≡ true → IsWell b.reading → IsWell next.reading
stays_well lines b x next (comments e s) h w = record { first = subst (λ (p : Part). BeginsWith p next.reading.before) (sym s.part_is) (subst (BeginsWith b.reading.part) (sym s.before_is) w.first); before_scalar = ap scalars s.before_is ∙ w.before_scalar; kept_scalar = ap scalars s.kept_is ∙ w.kept_scalar }
stays_well lines b x next (leaves code o e s) h w = record { first = subst (λ (p : Part). BeginsWith p next.reading.before) (sym s.part_is) (subst (BeginsWith b.reading.part) (sym s.before_is) w.first); before_scalar = ap scalars s.before_is ∙ w.before_scalar; kept_scalar = ap scalars s.kept_is ∙ w.kept_scalar }
stays_well lines b x next (keeps o e s) h w = record {
  first = subst (λ (p : Part). BeginsWith p next.reading.before) (sym s.part_is) (subst (BeginsWith b.reading.part) (sym s.before_is) w.first);
  before_scalar = ap scalars s.before_is ∙ w.before_scalar;
  kept_scalar = ap scalars s.kept_is ∙ scalars_joined b.reading.kept (kept_as b.reading.part b.reading.kept x.c ∷ []) w.kept_scalar (as_scalar b.reading.part b.reading.kept x.c h);
}
stays_well lines b x next (opens o e p s) h w = record {
  first = subst (λ (p : Part). BeginsWith p next.reading.before) (sym s.part_is) tt;
  before_scalar = ap scalars s.before_is ∙ scalars_joined b.reading.kept (40 ∷ []) w.kept_scalar refl;
  kept_scalar = ap scalars s.kept_is;
}
stays_well lines b x next (splits line o e p m s) h w = record {
  first = subst (λ (p : Part). BeginsWith p next.reading.before) (sym s.part_is) tt;
  before_scalar = ap scalars s.before_is ∙ ends_scalar b.reading.before (whole_of line b.reading.kept) x.c w.before_scalar (whole_scalar line b.reading.kept w.kept_scalar) h;
  kept_scalar = ap scalars s.kept_is;
}
stays_well lines b x next (closes line o e p m s) h w = subst IsWell (sym s.reading_is) (record { first = refl; before_scalar = refl; kept_scalar = refl })

-- ---- one character

pub kept_both : (ms ns : List UnplacedSyllable) → kept_in (ms ++ ns) ≡ kept_in ms ++ kept_in ns
kept_both [] ns = refl
kept_both (m ∷ ms) ns = ap (λ (u : List ℕ). chars m.kept ++ u) (kept_both ms ns) ∙ sym (append_assoc (chars m.kept) (kept_in ms) (kept_in ns))

cut_front : (n : ℕ) (kept : List ℕ) (c : ℕ) (ks : List ℕ) → take n (kept ++ c ∷ []) ++ ks ≡ take n kept ++ cond (nat_le n (length kept)) ks (c ∷ ks)
cut_front n kept c ks = by (nat_le n (length kept)) refl
  where
    by : (o : Bool) → nat_le n (length kept) ≡ o → take n (kept ++ c ∷ []) ++ ks ≡ take n kept ++ cond o ks (c ∷ ks)
    by true e = ap (λ (u : List ℕ). u ++ ks) (take-append-le n kept (c ∷ []) (leb-true n (length kept) e))
    by false e =
        let more = leb-false n (length kept) e in
        let long : length (kept ++ c ∷ []) ≡ length kept + 1 = length-append kept (c ∷ []) in
        ap (λ (u : List ℕ). u ++ ks) (take_whole n (kept ++ c ∷ []) (omega (arith, more, long)))
        ∙ (append_assoc kept (c ∷ []) ks ∙ ap (λ (u : List ℕ). u ++ c ∷ ks) (sym (take_whole n kept (omega (arith, more)))))

kept_one : (part : Part) (kept all ks : List ℕ) (c : ℕ)
    → front_by part (kept ++ kept_as part kept c ∷ []) all ++ ks ≡ front_by part kept all ++ cond (is_cut_by part kept all) ks (kept_as part kept c ∷ ks)
kept_one InText kept all ks c = append_assoc kept (kept_as InText kept c ∷ []) ks
kept_one (InNotes line) kept all ks c = cut_front (length (whole_of line all)) kept c ks

abbrev all_by : Fate → List ℕ → List ℕ → List ℕ
all_by fate kept all = cond (ends fate) kept all

-- from the syllable on nothing is lost
abbrev Goes : BodyRead → Char → BodyRead → Fate → List ℕ → Option (List ℕ) → Type 0
Goes b x next fate all o =
    kept_in next.made ++ from_syllable next.reading all o
    ≡ kept_in b.made ++ from_syllable b.reading (all_by fate b.reading.kept all) (with_next b.reading.part b.reading.kept (all_by fate b.reading.kept all) x.c fate o)

same_syllable : (r s : Reading) (all : List ℕ) (o : Option (List ℕ)) → s.part ≡ r.part → s.kept ≡ r.kept → s.before ≡ r.before → from_syllable s all o ≡ from_syllable r all o
same_syllable r s all None p k b = refl
same_syllable r s all (Some ks) p k b =
    ap (λ (u : List ℕ). u ++ (front_by s.part s.kept all ++ ks)) b
    ∙ (ap (λ (q : Part). r.before ++ (front_by q s.kept all ++ ks)) p ∙ ap (λ (u : List ℕ). r.before ++ (front_by r.part u all ++ ks)) k)

goes_stay : (b : BodyRead) (x : Char) (next : BodyRead) (all : List ℕ) (o : Option (List ℕ)) (comment : Bool) (now : List Finding) → Stays b next comment now
    → kept_in next.made ++ from_syllable next.reading all o ≡ kept_in b.made ++ from_syllable b.reading all o
goes_stay b x next all o comment now s =
    ap (λ (ms : List UnplacedSyllable). kept_in ms ++ from_syllable next.reading all o) s.made_is
    ∙ ap (λ (u : List ℕ). kept_in b.made ++ u) (same_syllable b.reading next.reading all o s.part_is s.kept_is s.before_is)

-- the mark stands after what stays of the snippet
at_mark : (before : List ℕ) (line : ℕ) (kept ks : List ℕ) (c : ℕ) → before ++ (take (length (whole_of line kept)) kept ++ c ∷ ks) ≡ (before ++ (whole_of line kept ++ c ∷ [])) ++ ks
at_mark before line kept ks c =
    ap (λ (u : List ℕ). before ++ (u ++ c ∷ ks)) (whole_is_front line kept)
    ∙ (ap (λ (u : List ℕ). before ++ u) (sym (append_assoc (whole_of line kept) (c ∷ []) ks)) ∙ sym (append_assoc before (whole_of line kept ++ c ∷ []) ks))

module _ (lines : ℕ) (b : BodyRead) (x : Char) (next : BodyRead) (all : List ℕ) (w : IsWell b.reading) (is : scalar x.c ≡ true) where
  abbrev r : Reading
  r = b.reading

  goes_keep : (o : Option (List ℕ)) → Keeps b x next → Goes b x next Keep all o
  goes_keep None s = ap (λ (ms : List UnplacedSyllable). kept_in ms ++ []) s.made_is
  goes_keep (Some ks) s =
      ap (λ (ms : List UnplacedSyllable). kept_in ms ++ (next.reading.before ++ (front_by next.reading.part next.reading.kept all ++ ks))) s.made_is
      ∙ ap (λ (u : List ℕ). kept_in b.made ++ u)
      (ap (λ (u : List ℕ). u ++ (front_by next.reading.part next.reading.kept all ++ ks)) s.before_is
      ∙ (ap (λ (q : Part). r.before ++ (front_by q next.reading.kept all ++ ks)) s.part_is
      ∙ (ap (λ (u : List ℕ). r.before ++ (front_by r.part u all ++ ks)) s.kept_is ∙ ap (λ (u : List ℕ). r.before ++ u) (kept_one r.part r.kept all ks x.c))))

  -- what stands before a part that begins
  begins : (before : List ℕ) (o : Option (List ℕ)) → Parts b x next before → (ks : List ℕ) → o ≡ Some ks
      → kept_in next.made ++ from_syllable next.reading all o ≡ kept_in b.made ++ (before ++ ks)
  begins before o s ks e =
      ap (λ (u : Option (List ℕ)). kept_in next.made ++ from_syllable next.reading all u) e
      ∙ (ap (λ (ms : List UnplacedSyllable). kept_in ms ++ (next.reading.before ++ (front_by next.reading.part next.reading.kept all ++ ks))) s.made_is
      ∙ ap (λ (u : List ℕ). kept_in b.made ++ u)
      (ap (λ (u : List ℕ). u ++ (front_by next.reading.part next.reading.kept all ++ ks)) s.before_is
      ∙ (ap (λ (q : Part). before ++ (front_by q next.reading.kept all ++ ks)) s.part_is
      ∙ ap (λ (u : List ℕ). before ++ (take (length (whole_of s.line all)) u ++ ks)) s.kept_is ∙ ap (λ (u : List ℕ). before ++ (u ++ ks)) (take_none (length (whole_of s.line all))))))
    where
      take_none : (n : ℕ) → take {A = ℕ} n [] ≡ []
      take_none zero = refl
      take_none (suc n) = refl

  none_begins : (before : List ℕ) → Parts b x next before → kept_in next.made ++ from_syllable next.reading all None ≡ kept_in b.made ++ []
  none_begins before s = ap (λ (ms : List UnplacedSyllable). kept_in ms ++ []) s.made_is

  goes_open : (o : Option (List ℕ)) → r.part ≡ InText → Parts b x next (r.kept ++ 40 ∷ []) → Goes b x next Ends all o
  goes_open o p s = subst (λ (q : Part). (BeginsWith q r.before → kept_in next.made ++ from_syllable next.reading all o ≡ kept_in b.made ++ from_syllable (record r { part = q }) r.kept (with_next q r.kept r.kept x.c Ends o))) (sym p) (by o s) w.first
    where
      by : (o : Option (List ℕ)) → Parts b x next (r.kept ++ 40 ∷ []) → r.before ≡ [] → kept_in next.made ++ from_syllable next.reading all o ≡ kept_in b.made ++ from_syllable (record r { part = InText }) r.kept (with_next InText r.kept r.kept x.c Ends o)
      by None s e = none_begins (r.kept ++ 40 ∷ []) s
      by (Some ks) s e = begins (r.kept ++ 40 ∷ []) (Some ks) s ks refl ∙ ap (λ (u : List ℕ). kept_in b.made ++ u) (append_assoc r.kept (40 ∷ []) ks ∙ ap (λ (u : List ℕ). u ++ (r.kept ++ 40 ∷ ks)) (sym e))

  goes_split : (o : Option (List ℕ)) (line : ℕ) → r.part ≡ InNotes line → (x.c == 124) ≡ true → Parts b x next (r.before ++ (whole_of line r.kept ++ x.c ∷ [])) → Goes b x next Ends all o
  goes_split o line p m s =
      subst (λ (q : Part). kept_in next.made ++ from_syllable next.reading all o ≡ kept_in b.made ++ from_syllable (record r { part = q }) r.kept (with_next q r.kept r.kept x.c Ends o)) (sym p)
      (rw m (by o))
    where
      by : (o : Option (List ℕ)) → kept_in next.made ++ from_syllable next.reading all o ≡ kept_in b.made ++ from_syllable (record r { part = InNotes line }) r.kept (option_map (λ ks. x.c ∷ ks) o)
      by None = none_begins (r.before ++ (whole_of line r.kept ++ x.c ∷ [])) s
      by (Some ks) = begins (r.before ++ (whole_of line r.kept ++ x.c ∷ [])) (Some ks) s ks refl ∙ ap (λ (u : List ℕ). kept_in b.made ++ u) (sym (at_mark r.before line r.kept ks x.c))

  goes_close : (o : Option (List ℕ)) (line : ℕ) → r.part ≡ InNotes line → (x.c == 124) ≡ false → Closes b x next (r.before ++ (whole_of line r.kept ++ x.c ∷ [])) → Goes b x next Ends all o
  goes_close o line p m s =
      subst (λ (q : Part). kept_in next.made ++ from_syllable next.reading all o ≡ kept_in b.made ++ from_syllable (record r { part = q }) r.kept (with_next q r.kept r.kept x.c Ends o)) (sym p)
      (rw m
      (ap (λ (ms : List UnplacedSyllable). kept_in ms ++ from_syllable next.reading all o) s.made_is
      ∙ (ap (λ (u : List ℕ). u ++ from_syllable next.reading all o) (kept_both b.made (s.syllable ∷ []) ∙ ap (λ (u : List ℕ). kept_in b.made ++ u) chars_are)
      ∙ (append_assoc (kept_in b.made) whole (from_syllable next.reading all o)
      ∙ ap (λ (u : List ℕ). kept_in b.made ++ u) (ap (λ (u : List ℕ). whole ++ u) (ap (λ (q : Reading). from_syllable q all o) s.reading_is ∙ starts o) ∙ sym (at_mark r.before line r.kept (or_none o) x.c))))))
    where
      whole : List ℕ
      whole = r.before ++ (whole_of line r.kept ++ x.c ∷ [])

      scalar_all : scalars whole ≡ true
      scalar_all = ends_scalar r.before (whole_of line r.kept) x.c w.before_scalar (whole_scalar line r.kept w.kept_scalar) is

      chars_are : kept_in (s.syllable ∷ []) ≡ whole
      chars_are = append-nil (chars s.syllable.kept) ∙ (ap chars s.all_is ∙ chars-encodes whole scalar_all)

      starts : (o : Option (List ℕ)) → from_syllable (at_start false) all o ≡ or_none o
      starts None = refl
      starts (Some ks) = refl

  pub goes : (o : Option (List ℕ)) → Step lines b x next → Goes b x next (fate_at lines b x) all o
  goes o (comments e s) = rw e (goes_stay b x next all o true [] s)
  goes o (leaves code n e s) = rw e (goes_stay b x next all o false _ s)
  goes o (keeps n e s) = rw e (goes_keep o s)
  goes o (opens n e p s) = rw e (goes_open o p s)
  goes o (splits line n e p m s) = rw e (goes_split o line p m s)
  goes o (closes line n e p m s) = rw e (goes_close o line p m s)
