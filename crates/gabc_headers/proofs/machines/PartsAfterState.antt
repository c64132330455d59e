-- Where the machine stands: the parts of the text are those emitted so far, and those of what is left.
use Rattle.std.proofs.Common.{◌≡◌, ℕ, ◌+◌, List, [], ◌∷◌, ◌++◌, length, drop, Bool, true, false, cond, ◌&&◌, ◌==◌, Option, Some, None, refl, sym, ap, ◌∙◌, subst, arith, append_assoc, append-nil, length-append, slice_range}
use Rattle.std.proofs.Math.Bool.{and-false}
use Rattle.gabc_headers.specs.Lines.{mark_end, run_len, lines, is_blank, is_blank_or_lf, ends_no_value, is_bare, has_mark, before_mark, has_colon, before_colon, after_colon, trim_value, trim_name}
use Rattle.gabc_headers.specs.Parts.{HeaderPart, unended, ended_parts, bad_name_parts, name_of, good_name, is_good_name}
use Rattle.gabc_headers.specs.witness.Parts.{outside, within, parts}
use Rattle.gabc_places.specs.declared.place.Span.{Span}
use Rattle.gabc_headers.specs.declared.characters.Run.{Run}
use Rattle.gabc_headers.specs.declared.characters.Run.TheVariants.{Text}
use Rattle.gabc_headers.specs.declared.part_machine.PartState.{PartState}
use Rattle.gabc_headers.specs.declared.part_machine.PartState.TheVariants.{Name, Skip, Value}
use Rattle.gabc_headers.specs.declared.part_machine.Trim.{Trim}
use Rattle.gabc_headers.specs.declared.events.HeaderEvent.TheVariants.{LeftOut}
use Rattle.gabc_headers.specs.declared.part_machine.PartMachine.{PartMachine}
use Rattle.gabc_headers.specs.machine.Characters.{is_mark_run}
use Rattle.gabc_headers.specs.machine.PartMachine.{span_of, at_line_start, event_at_end, header_of, with_trim, value_begun_at, in_value, next_trim}
use Rattle.gabc_headers.proofs.machines.EventsAreParts.{text_at, seen, span_slice}
use Rattle.gabc_headers.proofs.marks_of_lines.RunByCharacter.{wanted, RunOf, Closed, begin_run, run_closes, run_open}
use Rattle.gabc_headers.proofs.machines.TrimByCharacter.{TrimOf, begin_trim, trim_push, trim_slice}
use Rattle.gabc_headers.proofs.groups.GroupsTellParts.{skipped_parts, colonless_parts}

-- ---- lines

-- the characters up to the first LF
abbrev pub first_line : List ℕ → List ℕ
first_line [] = []
first_line (c ∷ r) = cond (c == 10) [] (c ∷ first_line r)

-- the lines below the first one
abbrev pub later_lines : List ℕ → List (List ℕ)
later_lines [] = []
later_lines (c ∷ r) = cond (c == 10) (lines r) (later_lines r)

-- the lines are the first and those below it
pub lines_split : (r : List ℕ) → lines r ≡ first_line r ∷ later_lines r
lines_split [] = refl
lines_split (c ∷ r) = grind (arith, lines_split r)

-- ---- what the code's events stand for

-- the name that a span holds
abbrev pub named_as : List ℕ → Option Span → Option (List ℕ)
named_as text None = None
named_as text (Some s) = Some (text_at text s)

-- ---- where the machine stands

-- the prefix of a line that begins no header yet, or its name
pub record NameSo (p : List ℕ) (leading : Bool) : Type 0 where
  pub bare : (x : List ℕ) → is_bare (p ++ x) ≡ (leading && is_bare x)
  pub has : (x : List ℕ) → has_colon (p ++ x) ≡ has_colon x
  pub before : (x : List ℕ) → before_colon (p ++ x) ≡ p ++ before_colon x
  pub after : (x : List ℕ) → after_colon (p ++ x) ≡ after_colon x

-- a value's line l, and the lines below it
abbrev pub value_left : Bool → ℕ → Option (List ℕ) → List ℕ → ℕ → ℕ → List ℕ → List (List ℕ) → List HeaderPart
value_left long j o s k n l later =
    cond (has_mark (wanted long) l) (ended_parts j o (s ++ before_mark (wanted long) l) (n + mark_end (wanted long) l)) []
    ++ parts (cond (has_mark (wanted long) l) outside (within j o (s ++ l))) (k + 1) (n + (length l + 1)) later

module _ (all : List HeaderPart) (text : List ℕ) where
  -- in a line that begins no header yet, or in its name: where the line begins and what of it is read
  pub record InName (r : List ℕ) (i : ℕ) (rd : PartMachine) (done : List HeaderPart) : Type 0 where
    pub start : ℕ
    pub prefix : List ℕ
    pub place : i ≡ start + length prefix
    pub at : drop start text ≡ prefix ++ r
    pub trim : TrimOf is_blank is_blank start prefix rd.trim
    pub so : NameSo prefix rd.trim.leading
    pub left : all ≡ done ++ parts outside rd.line start ((prefix ++ first_line r) ∷ later_lines r)

  -- in the rest of a line that is skipped
  pub record InSkip (r : List ℕ) (i : ℕ) (rd : PartMachine) (done : List HeaderPart) : Type 0 where
    pub left : all ≡ done ++ parts outside (rd.line + 1) (i + (length (first_line r) + 1)) (later_lines r)

  -- in a value: where it and its line begin, what of it stands above the line and what of the line is read
  pub record InValue (long : Bool) (run : Run) (r : List ℕ) (i : ℕ) (rd : PartMachine) (done : List HeaderPart) : Type 0 where
    pub start : ℕ
    pub line_start : ℕ
    pub above : List ℕ
    pub prefix : List ℕ
    pub place : i ≡ line_start + length prefix
    pub begun : i ≡ start + length (above ++ prefix)
    pub at : drop start text ≡ (above ++ prefix) ++ r
    pub trim : TrimOf is_blank_or_lf ends_no_value start (above ++ prefix) rd.trim
    pub runs : RunOf long run prefix
    pub left : all ≡ done ++ value_left long rd.header (named_as text rd.name) above rd.line line_start (prefix ++ first_line r) (later_lines r)

  -- by the state
  abbrev pub StandsIn : PartState → List ℕ → ℕ → PartMachine → List HeaderPart → Type 0
  StandsIn Name r i rd done = InName r i rd done
  StandsIn Skip r i rd done = InSkip r i rd done
  StandsIn (Value long run) r i rd done = InValue long run r i rd done

  -- ---- a new line

  -- the parts of what is left are those of the lines from here on
  pub begin_line : (r : List ℕ) (i k : ℕ) (done : List HeaderPart) → drop i text ≡ r → all ≡ done ++ parts outside k i (lines r) → InName r i (at_line_start k i) done
  begin_line r i k done e h = grind (arith, begin_trim, lines_split)

  -- ---- the rest of a line that is skipped

  -- a character of a line that is skipped
  pub skip_more : (c : ℕ) (r : List ℕ) (i : ℕ) (rd : PartMachine) (done : List HeaderPart) → (c == 10) ≡ false → InSkip (c ∷ r) i rd done → InSkip r (i + 1) rd done
  skip_more c r i rd done e h = grind arith

  -- its LF
  pub skip_line : (r : List ℕ) (i : ℕ) (rd : PartMachine) (done : List HeaderPart) → drop (i + 1) text ≡ r → InSkip (10 ∷ r) i rd done → InName r (i + 1) (at_line_start (rd.line + 1) (i + 1)) done
  skip_line r i rd done e h = begin_line r (i + 1) (rd.line + 1) done e h.left

  -- ---- a line with no `:` so far

  -- one character from what follows to what is done
  push : (p r : List ℕ) (c : ℕ) → p ++ c ∷ r ≡ (p ++ c ∷ []) ++ r
  push p r c = sym (append_assoc p (c ∷ []) r)

  -- its place
  one_more : (i start : ℕ) (p : List ℕ) (c : ℕ) → i ≡ start + length p → i + 1 ≡ start + length (p ++ c ∷ [])
  one_more i start p c h = let l = length-append p (c ∷ []) in omega arith

  -- a character of a line without `:` so far
  pub name_more : (c : ℕ) (r : List ℕ) (i : ℕ) (rd : PartMachine) (done : List HeaderPart) (b : Bool) → (c == 10) ≡ false → (c == 58) ≡ false → is_blank c ≡ b
      → ((x : List ℕ) → (rd.trim.leading && is_bare (c ∷ x)) ≡ ((rd.trim.leading && b) && is_bare x))
      → InName (c ∷ r) i rd done → InName r (i + 1) (with_trim rd (i + 1) b b) done
  name_more c r i rd done b e f g k h = record {
    start = h.start;
    prefix = h.prefix ++ c ∷ [];
    place = one_more i h.start h.prefix c h.place;
    at = h.at ∙ push h.prefix r c;
    trim = trim_push is_blank is_blank h.start h.prefix rd.trim c i b b h.trim g g h.place;
    so = record {
      bare = λ x. ap is_bare (append_assoc h.prefix (c ∷ []) x) ∙ (h.so.bare (c ∷ x) ∙ k x);
      has = λ x. ap has_colon (append_assoc h.prefix (c ∷ []) x) ∙ (h.so.has (c ∷ x) ∙ (rw (f) refl));
      before = λ x. ap before_colon (append_assoc h.prefix (c ∷ []) x) ∙ (h.so.before (c ∷ x) ∙ (ap (λ (y : Bool). h.prefix ++ cond y [] (c ∷ before_colon x)) f ∙ push h.prefix (before_colon x) c));
      after = λ x. ap after_colon (append_assoc h.prefix (c ∷ []) x) ∙ (h.so.after (c ∷ x) ∙ (rw (f) refl));
    };
    left = h.left ∙ (ap (λ (y : Bool). done ++ parts outside rd.line h.start ((h.prefix ++ cond y [] (c ∷ first_line r)) ∷ cond y (lines r) (later_lines r))) e
        ∙ ap (λ (y : List ℕ). done ++ parts outside rd.line h.start (y ∷ later_lines r)) (push h.prefix (first_line r) c));
  }

  -- a header's first line
  header_first : (l : List ℕ) (k n : ℕ) (ls : List (List ℕ)) → is_bare l ≡ false → has_colon l ≡ true
      → parts outside k n (l ∷ ls) ≡ bad_name_parts k (name_of l) (n + length (before_colon l))
      ++ (cond (has_mark 1 (after_colon l)) (ended_parts k (name_of l) (before_mark 1 (after_colon l)) (n + (length (before_colon l) + (1 + mark_end 1 (after_colon l))))) []
      ++ parts (cond (has_mark 1 (after_colon l)) outside (within k (name_of l) (after_colon l))) (k + 1) (n + (length l + 1)) ls)
  header_first l k n ls h g = rw (h, g) (append_assoc (bad_name_parts k (name_of l) (n + length (before_colon l))) _ _)

  -- the LF of a line without `:`
  pub name_line : (r : List ℕ) (i : ℕ) (rd : PartMachine) (done : List HeaderPart) → drop (i + 1) text ≡ r → InName (10 ∷ r) i rd done
      → InName r (i + 1) (at_line_start (rd.line + 1) (i + 1)) (done ++ seen text (cond rd.trim.leading None (Some (LeftOut rd.line i))))
  name_line r i rd done e h = grind (arith, append-nil, begin_line, skipped_parts, colonless_parts, append_assoc)

  -- the `%` of a line of comment
  pub name_percent : (r : List ℕ) (i : ℕ) (rd : PartMachine) (done : List HeaderPart) → rd.trim.leading ≡ true → InName (37 ∷ r) i rd done → InSkip r (i + 1) (record rd { state = Skip }) done
  name_percent r i rd done g h = grind (arith, skipped_parts, length-append)

  -- ---- the `:` after a name

  -- a name that is left out is emitted at the `:`
  events_name : (good : Bool) (nm : List ℕ) (k i : ℕ) → good ≡ is_good_name nm → bad_name_parts k (good_name nm) i ≡ seen text (cond good None (Some (LeftOut k i)))
  events_name good nm k i e = grind arith

  -- a name that is kept is what its span holds
  kept_name : (good : Bool) (nm : List ℕ) (s : Span) → good ≡ is_good_name nm → text_at text s ≡ nm → good_name nm ≡ named_as text (cond good (Some s) None)
  kept_name good nm s e f = grind arith

  -- the `:` after a name
  pub name_colon : (r : List ℕ) (i : ℕ) (rd : PartMachine) (done : List HeaderPart) (good : Bool) → drop (i + 1) text ≡ r → good ≡ is_good_name (slice_range text rd.trim.from rd.trim.to)
      → InName (58 ∷ r) i rd done → InValue false Text r (i + 1) (value_begun_at rd (i + 1) good) (done ++ seen text (cond good None (Some (LeftOut rd.line i))))
  name_colon r i rd done good e g h = record {
    start = i + 1;
    line_start = i + 1;
    above = [];
    prefix = [];
    place = omega arith;
    begun = omega arith;
    at = e;
    trim = begin_trim is_blank_or_lf ends_no_value (i + 1);
    runs = begin_run false;
    left = h.left ∙ (ap (λ (x : List HeaderPart). done ++ x) whole
        ∙ sym (append_assoc done (seen text (cond good None (Some (LeftOut rd.line i)))) (value_left false rd.line (named_as text (value_begun_at rd (i + 1) good).name) [] rd.line (i + 1) (first_line r) (later_lines r))));
  }
    where
      whole : parts outside rd.line h.start ((h.prefix ++ 58 ∷ first_line r) ∷ later_lines r)
          ≡ seen text (cond good None (Some (LeftOut rd.line i))) ++ value_left false rd.line (named_as text (value_begun_at rd (i + 1) good).name) [] rd.line (i + 1) (first_line r) (later_lines r)
      whole =
          let line : List ℕ = h.prefix ++ 58 ∷ first_line r in
          let name : List ℕ = slice_range text rd.trim.from rd.trim.to in
          let b : is_bare line ≡ false = h.so.bare (58 ∷ first_line r) ∙ and-false rd.trim.leading in
          let f : before_colon line ≡ h.prefix = h.so.before (58 ∷ first_line r) ∙ append-nil h.prefix in
          let a : after_colon line ≡ first_line r = h.so.after (58 ∷ first_line r) in
          let t : name ≡ trim_name h.prefix = trim_slice is_blank is_blank h.start h.prefix (58 ∷ r) text rd.trim h.trim h.at in
          let o : name_of line ≡ good_name name = ap (λ (x : List ℕ). good_name (trim_name x)) f ∙ ap good_name (sym t) in
          let p : h.start + length (before_colon line) ≡ i = ap (λ (x : List ℕ). h.start + length x) f ∙ sym h.place in
          let m : h.start + (length (before_colon line) + (1 + mark_end 1 (after_colon line))) ≡ (i + 1) + mark_end 1 (after_colon line) = omega arith in
          let w : h.start + (length line + 1) ≡ (i + 1) + (length (first_line r) + 1) = (let u = length-append h.prefix (58 ∷ first_line r) in let v = h.place in omega arith) in
          header_first line rd.line h.start (later_lines r) b (h.so.has (58 ∷ first_line r))
          ∙ (ap (λ (x : ℕ). bad_name_parts rd.line (name_of line) (h.start + length (before_colon line)) ++ (cond (has_mark 1 (after_colon line)) (ended_parts rd.line (name_of line) (before_mark 1 (after_colon line)) x) []
          ++ parts (cond (has_mark 1 (after_colon line)) outside (within rd.line (name_of line) (after_colon line))) (rd.line + 1) (h.start + (length line + 1)) (later_lines r))) m
          ∙ (ap (λ (x : ℕ). bad_name_parts rd.line (name_of line) (h.start + length (before_colon line)) ++ (cond (has_mark 1 (after_colon line)) (ended_parts rd.line (name_of line) (before_mark 1 (after_colon line)) ((i + 1) + mark_end 1 (after_colon line))) []
          ++ parts (cond (has_mark 1 (after_colon line)) outside (within rd.line (name_of line) (after_colon line))) (rd.line + 1) x (later_lines r))) w
          ∙ (ap (λ (x : List ℕ). bad_name_parts rd.line (name_of line) (h.start + length (before_colon line)) ++ (cond (has_mark 1 x) (ended_parts rd.line (name_of line) (before_mark 1 x) ((i + 1) + mark_end 1 x)) []
          ++ parts (cond (has_mark 1 x) outside (within rd.line (name_of line) x)) (rd.line + 1) ((i + 1) + (length (first_line r) + 1)) (later_lines r))) a
          ∙ (ap (λ (x : Option (List ℕ)). bad_name_parts rd.line x (h.start + length (before_colon line)) ++ value_left false rd.line x [] rd.line (i + 1) (first_line r) (later_lines r)) o
          ∙ (ap (λ (x : ℕ). bad_name_parts rd.line (good_name name) x ++ value_left false rd.line (good_name name) [] rd.line (i + 1) (first_line r) (later_lines r)) p
          ∙ (ap (λ (x : List HeaderPart). x ++ value_left false rd.line (good_name name) [] rd.line (i + 1) (first_line r) (later_lines r)) (events_name good name rd.line i g)
          ∙ ap (λ (x : Option (List ℕ)). seen text (cond good None (Some (LeftOut rd.line i))) ++ value_left false rd.line x [] rd.line (i + 1) (first_line r) (later_lines r))
          (kept_name good name (span_of rd.trim) g (span_slice text rd.trim))))))))

  -- ---- within a value

  -- a character of a value
  pub value_more : (long : Bool) (run after : Run) (c : ℕ) (r : List ℕ) (i : ℕ) (rd : PartMachine) (done : List HeaderPart) (a b : Bool) → (c == 10) ≡ false
      → is_blank_or_lf c ≡ a → ends_no_value c ≡ b → ((p : List ℕ) → RunOf long run p → RunOf long after (p ++ c ∷ []))
      → InValue long run (c ∷ r) i rd done → InValue long after r (i + 1) (in_value rd long after (i + 1) a b) done
  value_more long run after c r i rd done a b e f g k h =
      let t : (h.above ++ h.prefix) ++ c ∷ [] ≡ h.above ++ (h.prefix ++ c ∷ []) = append_assoc h.above h.prefix (c ∷ []) in
      record {
        start = h.start;
        line_start = h.line_start;
        above = h.above;
        prefix = h.prefix ++ c ∷ [];
        place = one_more i h.line_start h.prefix c h.place;
        begun = one_more i h.start (h.above ++ h.prefix) c h.begun ∙ ap (λ (x : List ℕ). h.start + length x) t;
        at = h.at ∙ (push (h.above ++ h.prefix) r c ∙ ap (λ (x : List ℕ). x ++ r) t);
        trim = subst (λ (x : List ℕ). TrimOf is_blank_or_lf ends_no_value h.start x (next_trim rd.trim (i + 1) a b)) t
            (trim_push is_blank_or_lf ends_no_value h.start (h.above ++ h.prefix) rd.trim c i a b h.trim f g h.begun);
        runs = k h.prefix h.runs;
        left = h.left ∙ (ap (λ (y : Bool). done ++ value_left long rd.header (named_as text rd.name) h.above rd.line h.line_start (h.prefix ++ cond y [] (c ∷ first_line r)) (cond y (lines r) (later_lines r))) e
            ∙ ap (λ (y : List ℕ). done ++ value_left long rd.header (named_as text rd.name) h.above rd.line h.line_start y (later_lines r)) (push h.prefix (first_line r) c));
      }

  -- a value's next line
  later_line : (j : ℕ) (o : Option (List ℕ)) (v : List ℕ) (k n : ℕ) (l : List ℕ) (ls : List (List ℕ))
      → parts (within j o v) k n (l ∷ ls) ≡ value_left true j o (v ++ 10 ∷ []) k n l ls
  later_line j o v k n l ls =
      ap (λ (x : List ℕ). cond (has_mark 2 l) (ended_parts j o x (n + mark_end 2 l)) [] ++ parts (cond (has_mark 2 l) outside (within j o (v ++ 10 ∷ l))) (k + 1) (n + (length l + 1)) ls) (push v (before_mark 2 l) 10)
      ∙ ap (λ (x : List ℕ). cond (has_mark 2 l) (ended_parts j o ((v ++ 10 ∷ []) ++ before_mark 2 l) (n + mark_end 2 l)) [] ++ parts (cond (has_mark 2 l) outside (within j o x)) (k + 1) (n + (length l + 1)) ls) (push v l 10)

  -- a line of a value without a mark
  unmarked : (long : Bool) (j : ℕ) (o : Option (List ℕ)) (s : List ℕ) (k n : ℕ) (l : List ℕ) (ls : List (List ℕ)) → has_mark (wanted long) l ≡ false
      → value_left long j o s k n l ls ≡ parts (within j o (s ++ l)) (k + 1) (n + (length l + 1)) ls
  unmarked long j o s k n l ls h = grind arith

  -- a line of a value with a mark
  marked : (long : Bool) (j : ℕ) (o : Option (List ℕ)) (s : List ℕ) (k n : ℕ) (l : List ℕ) (ls : List (List ℕ)) → has_mark (wanted long) l ≡ true
      → value_left long j o s k n l ls ≡ ended_parts j o (s ++ before_mark (wanted long) l) (n + mark_end (wanted long) l) ++ parts outside (k + 1) (n + (length l + 1)) ls
  marked long j o s k n l ls h = grind arith

  -- the LF of a line of a value without a mark
  pub value_line : (long : Bool) (run : Run) (r : List ℕ) (i : ℕ) (rd : PartMachine) (done : List HeaderPart) → is_mark_run run ≡ false
      → InValue long run (10 ∷ r) i rd done → InValue true Text r (i + 1) (record rd { state = Value true Text; line = rd.line + 1; trim = next_trim rd.trim (i + 1) true true }) done
  value_line long run r i rd done e h =
      let nil : h.prefix ++ [] ≡ h.prefix = append-nil h.prefix in
      let t : ((h.above ++ h.prefix) ++ 10 ∷ []) ++ [] ≡ (h.above ++ h.prefix) ++ 10 ∷ [] = append-nil ((h.above ++ h.prefix) ++ 10 ∷ []) in
      let m : has_mark (wanted long) (h.prefix ++ []) ≡ false = ap (has_mark (wanted long)) nil ∙ run_open long run h.prefix h.runs e in
      let n : h.line_start + (length (h.prefix ++ []) + 1) ≡ i + 1 = (let a = h.place in let b = ap length nil in omega arith) in
      record {
        start = h.start;
        line_start = i + 1;
        above = (h.above ++ h.prefix) ++ 10 ∷ [];
        prefix = [];
        place = omega arith;
        begun = one_more i h.start (h.above ++ h.prefix) 10 h.begun ∙ ap (λ (x : List ℕ). h.start + length x) (sym t);
        at = h.at ∙ (push (h.above ++ h.prefix) r 10 ∙ ap (λ (x : List ℕ). x ++ r) (sym t));
        trim = subst (λ (x : List ℕ). TrimOf is_blank_or_lf ends_no_value h.start x (next_trim rd.trim (i + 1) true true)) (sym t)
            (trim_push is_blank_or_lf ends_no_value h.start (h.above ++ h.prefix) rd.trim 10 i true true h.trim refl refl h.begun);
        runs = begin_run true;
        left = h.left ∙ (ap (λ (x : List HeaderPart). done ++ x) (unmarked long rd.header (named_as text rd.name) h.above rd.line h.line_start (h.prefix ++ []) (lines r) m)
            ∙ (ap (λ (x : ℕ). done ++ parts (within rd.header (named_as text rd.name) (h.above ++ (h.prefix ++ []))) (rd.line + 1) x (lines r)) n
            ∙ (ap (λ (x : List ℕ). done ++ parts (within rd.header (named_as text rd.name) (h.above ++ x)) (rd.line + 1) (i + 1) (lines r)) nil
            ∙ (ap (λ (x : List (List ℕ)). done ++ parts (within rd.header (named_as text rd.name) (h.above ++ h.prefix)) (rd.line + 1) (i + 1) x) (lines_split r)
            ∙ ap (λ (x : List HeaderPart). done ++ x) (later_line rd.header (named_as text rd.name) (h.above ++ h.prefix) (rd.line + 1) (i + 1) (first_line r) (later_lines r))))));
      }

  -- ---- a mark

  -- a header that ends is emitted with what its spans hold
  emitted_end : (o : Option Span) (j i p : ℕ) (t : Trim) (v w : List ℕ) → p ≡ i → trim_value v ≡ w → w ≡ slice_range text t.from t.to
      → ended_parts j (named_as text o) v p ≡ seen text (header_of j t i o)
  emitted_end o j i p t v w e f g = grind (arith, span_slice)

  -- the header that ends at the mark is the one that is emitted
  closed : (long : Bool) (run : Run) (c r l : List ℕ) (i : ℕ) (rd : PartMachine) (done : List HeaderPart) (h : InValue long run c i rd done) → Closed long h.prefix l → run_len l ≡ 0
      → ended_parts rd.header (named_as text rd.name) (h.above ++ before_mark (wanted long) (h.prefix ++ l)) (h.line_start + mark_end (wanted long) (h.prefix ++ l)) ≡ seen text (event_at_end rd i)
  closed long run c r l i rd done h z q = grind (arith, emitted_end, trim_slice)

  -- the LF after a mark
  pub value_ends : (long : Bool) (run : Run) (r : List ℕ) (i : ℕ) (rd : PartMachine) (done : List HeaderPart) → drop (i + 1) text ≡ r → is_mark_run run ≡ true
      → InValue long run (10 ∷ r) i rd done → InName r (i + 1) (at_line_start (rd.line + 1) (i + 1)) (done ++ seen text (event_at_end rd i))
  value_ends long run r i rd done d e h =
      let z = run_closes long run h.prefix [] h.runs e refl in
      let n : h.line_start + (length (h.prefix ++ []) + 1) ≡ i + 1 = (let a = h.place in let b = length-append h.prefix [] in omega arith) in
      begin_line r (i + 1) (rd.line + 1) (done ++ seen text (event_at_end rd i)) d (h.left
      ∙ (ap (λ (x : List HeaderPart). done ++ x) (marked long rd.header (named_as text rd.name) h.above rd.line h.line_start (h.prefix ++ []) (lines r) z.has)
      ∙ (ap (λ (x : List HeaderPart). done ++ (x ++ parts outside (rd.line + 1) (h.line_start + (length (h.prefix ++ []) + 1)) (lines r))) (closed long run (10 ∷ r) r [] i rd done h z refl)
      ∙ (ap (λ (x : ℕ). done ++ (seen text (event_at_end rd i) ++ parts outside (rd.line + 1) x (lines r))) n
      ∙ sym (append_assoc done (seen text (event_at_end rd i)) (parts outside (rd.line + 1) (i + 1) (lines r)))))))

  -- the `%` after a mark
  pub value_percent : (long : Bool) (run : Run) (r : List ℕ) (i : ℕ) (rd : PartMachine) (done : List HeaderPart) → is_mark_run run ≡ true
      → InValue long run (37 ∷ r) i rd done → InSkip r (i + 1) (record rd { state = Skip }) (done ++ seen text (event_at_end rd i))
  value_percent long run r i rd done e h =
      let z = run_closes long run h.prefix (37 ∷ first_line r) h.runs e refl in
      let n : h.line_start + (length (h.prefix ++ 37 ∷ first_line r) + 1) ≡ (i + 1) + (length (first_line r) + 1) = (let a = h.place in let b = length-append h.prefix (37 ∷ first_line r) in omega arith) in
      record {
        left = h.left
            ∙ (ap (λ (x : List HeaderPart). done ++ x) (marked long rd.header (named_as text rd.name) h.above rd.line h.line_start (h.prefix ++ 37 ∷ first_line r) (later_lines r) z.has)
            ∙ (ap (λ (x : List HeaderPart). done ++ (x ++ parts outside (rd.line + 1) (h.line_start + (length (h.prefix ++ 37 ∷ first_line r) + 1)) (later_lines r))) (closed long run (37 ∷ r) r (37 ∷ first_line r) i rd done h z refl)
            ∙ (ap (λ (x : ℕ). done ++ (seen text (event_at_end rd i) ++ parts outside (rd.line + 1) x (later_lines r))) n
            ∙ sym (append_assoc done (seen text (event_at_end rd i)) (parts outside (rd.line + 1) ((i + 1) + (length (first_line r) + 1)) (later_lines r))))));
      }

  -- ---- the end

  -- the text ends in a line without `:`
  pub end_name : (i : ℕ) (rd : PartMachine) (done : List HeaderPart) → InName [] i rd done → all ≡ (done ++ seen text (cond rd.trim.leading None (Some (LeftOut rd.line i)))) ++ []
  end_name i rd done h = grind (arith, skipped_parts, append-nil, colonless_parts, length-append)

  -- the text ends after a mark
  pub end_marked : (long : Bool) (run : Run) (i : ℕ) (rd : PartMachine) (done : List HeaderPart) → is_mark_run run ≡ true → InValue long run [] i rd done → all ≡ (done ++ seen text (event_at_end rd i)) ++ []
  end_marked long run i rd done e h =
      let z = run_closes long run h.prefix [] h.runs e refl in
      h.left ∙ (ap (λ (x : List HeaderPart). done ++ x) (marked long rd.header (named_as text rd.name) h.above rd.line h.line_start (h.prefix ++ []) [] z.has)
      ∙ (ap (λ (x : List HeaderPart). done ++ (x ++ [])) (closed long run [] [] [] i rd done h z refl) ∙ sym (append_assoc done (seen text (event_at_end rd i)) [])))

  -- the text ends in a value
  pub end_open : (long : Bool) (run : Run) (i : ℕ) (rd : PartMachine) (done : List HeaderPart) → is_mark_run run ≡ false → InValue long run [] i rd done → all ≡ (done ++ []) ++ unended rd.header ∷ []
  end_open long run i rd done e h =
      let m : has_mark (wanted long) (h.prefix ++ []) ≡ false = ap (has_mark (wanted long)) (append-nil h.prefix) ∙ run_open long run h.prefix h.runs e in
      h.left ∙ (ap (λ (x : List HeaderPart). done ++ x) (unmarked long rd.header (named_as text rd.name) h.above rd.line h.line_start (h.prefix ++ []) [] m)
      ∙ ap (λ (x : List HeaderPart). x ++ unended rd.header ∷ []) (sym (append-nil done)))
