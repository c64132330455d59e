-- What an engine writes of pieces of an input, and sinks take.
use Rattle.std.proofs.Common.{◌≡◌, ℕ, ◌+◌, ◌-◌, ◌<◌, ◌≤◌, List, [], ◌++◌, length, take, drop, take_all, take-add, take-append-drop, length-append, append-nil, length-drop, append_assoc, Option, Result, ◌⊎◌, inl, inr, refl, sym, ap, ◌∙◌, subst, arith}
use Rattle.std.proofs.Math.Seq.{take-append-add}
use Rattle.std.proofs.lemmas.List.{take-append-le}
use Rattle.std.proofs.KnownBytes.{Appends-nil, Appends-trans, Consumes-nil, Consumes-trans, Consumes-kept}
use Rattle.std.specs.Result.{OnErr}
use Rattle.std.specs.Io.KnownBytes.{Appends, Consumes, Keeps}
use Rattle.gabc_places.specs.Calls.{Calls, GoesOn, FailsOnce}
use Rattle.gabc_places.proofs.CallsInTime.{goes_on_here, goes_on_after, fails_after}
use Rattle.gregorio.specs.declared.source_ending.SourceEnding.{SourceEnding}
use Rattle.gregorio.specs.declared.source_ending.SourceEnding.TheVariants.{Broken}
use Rattle.gregorio_jobs.specs.declared.job.Format.{Format}
use Rattle.gregorio.specs.Engine.{IsPrompt, NothingWaits, TakesFront, with_waiting}
use Rattle.gregorio.specs.Run.{IsPointOf, used}
use Rattle.gregorio.specs.witness.Engine.{EngineState, streams_left}
use Rattle.gregorio.specs.Streams.{Streams, after_bytes}
use Rattle.gregorio.proofs.pieces.BytesAreJoined.{with_both_after}
use Rattle.gregorio.proofs.pieces.BytesAreTaken.{none_wait}
use Rattle.gregorio.specs.machine.Compile.{AreSent, AreCut, IsPromptAs, Knows, NoneOrAll, StreamsAreCut, IsFed, IsFedFrom, IsFedAll, IsFedInPart}

-- what holds whatever is answered
pub on_err_any : {A B C : Type 0} (r : Result A B) → C → OnErr r C
on_err_any r h = grind arith

-- one sink fails after what both took
one_fails : (a b c d e f : Calls) → GoesOn a b → GoesOn d e → (FailsOnce b c × GoesOn e f) ⊎ (GoesOn b c × FailsOnce e f) → (FailsOnce a c × GoesOn d f) ⊎ (GoesOn a c × FailsOnce d f)
one_fails a b c d e f h k g = grind (arith, fails_after, goes_on_after)

-- if nothing waited, these bytes were taken
abbrev pub IsTaken : EngineState → EngineState → List ℕ → Type 0
IsTaken e f bytes = (rest : List ℕ) (ending : SourceEnding) → streams_left e ending (bytes ++ rest) ≡ with_waiting f (streams_left f ending rest)

pub taken_from : (e f : EngineState) (piece : List ℕ) (count : ℕ) → NothingWaits e → TakesFront e piece count f → IsTaken e f (take count piece)
taken_from e f piece count waits takes rest ending = sym (none_wait e waits (streams_left e ending (take count piece ++ rest))) ∙ takes.brings rest ending

-- all after n bytes
pub all_after : (count : ℕ) (piece : List ℕ) → take (length piece - count) (drop count piece) ≡ drop count piece
all_after count piece = take_all (length piece - count) (drop count piece) (omega (arith, length-drop count piece))

-- nothing waits in an engine that forgot what waited
pub nothing_waits_after : (f g : EngineState) → g ≡ record f { output = []; messages = [] } → NothingWaits g
nothing_waits_after f g h = subst NothingWaits (sym h) (record { output = refl; messages = refl })

-- ---- points of the reading

-- after bytes of which this was written a point of the rest is a point
is_point_after : (xs rest front : List ℕ) (ending at : SourceEnding) → IsPointOf rest ending front at → IsPointOf (xs ++ rest) ending (xs ++ front) at
is_point_after xs rest front ending at h = grind (arith, append_assoc)

-- a point before the end is one of more bytes, whatever ends them
pub knows_longer : (e : EngineState) (xs rest : List ℕ) (ending : SourceEnding) (o l : List ℕ) → Knows e xs Broken o l → Knows e (xs ++ rest) ending o l
knows_longer e xs rest ending o l k = grind (arith, append_assoc)

-- after bytes of which this was written the same holds of what is known of the rest
pub knows_after : (e f : EngineState) (xs rest : List ℕ) (ending : SourceEnding) (output lines : List ℕ) → f.written.format ≡ e.written.format
    → ((more : List ℕ) (at : SourceEnding) → streams_left e at (xs ++ more) ≡ after_bytes output lines (streams_left f at more))
    → (o l : List ℕ) → Knows f rest ending o l → Knows e (xs ++ rest) ending (output ++ o) (lines ++ l)
knows_after e f xs rest ending output lines format law o l k = record {
  front = xs ++ k.front;
  at = k.at;
  is_point = is_point_after xs rest k.front ending k.at k.is_point;
  left = k.left;
  known = law k.front k.at ∙ (ap (after_bytes output lines) k.known ∙ sym (with_both_after output lines o l k.left));
  prompt = subst (λ (x : Format). IsPrompt x k.left) format k.prompt;
}

-- what an engine has written, which keeps nothing back now
pub knows_here : (e f : EngineState) (xs output lines : List ℕ) → IsPromptAs e f → ((more : List ℕ) (at : SourceEnding) → streams_left e at (xs ++ more) ≡ after_bytes output lines (streams_left f at more))
    → Knows e xs Broken output lines
knows_here e f xs output lines p law = record {
  front = xs;
  at = Broken;
  is_point = inr (refl, refl);
  left = streams_left f Broken [];
  known = ap (streams_left e Broken) (sym (append-nil xs)) ∙ law [] Broken;
  prompt = p.prompt;
}

-- both points of a sending are known
pub none_or_all : (e : EngineState) (piece : List ℕ) (ending : SourceEnding) (xs ls : List ℕ) → Knows e piece ending [] [] → Knows e piece ending xs ls → (o l : List ℕ) → NoneOrAll xs ls o l → Knows e piece ending o l
none_or_all e piece ending xs ls none all o l h = grind arith

pub prompt_on : (e f g : EngineState) → IsPromptAs e f → IsPromptAs f g → IsPromptAs e g
prompt_on e f g p q = record { format = q.format ∙ p.format; prompt = subst (λ (x : Format). IsPrompt x (streams_left g Broken [])) p.format q.prompt }

module _ {A B : Type 0} (wrote : A → Option (List ℕ)) (went : A → Calls) (emitted : B → Option (List ℕ)) (went_too : B → Calls) where
  pub sent_on : (o p q : A) (m n r : B) (xs ls ys ks : List ℕ) → AreSent (used wrote went o p) (used emitted went_too m n) xs ls → AreSent (used wrote went p q) (used emitted went_too n r) ys ks
      → AreSent (used wrote went o q) (used emitted went_too m r) (xs ++ ys) (ls ++ ks)
  sent_on o p q m n r xs ls ys ks s t = grind (arith, Appends-trans, goes_on_after)

  -- a point of what follows is one after what was sent
  pub cut_after : (P Q : List ℕ → List ℕ → Type 0) (o p q : A) (m n r : B) (xs ls ys ks : List ℕ) → ((x l : List ℕ) → P x l → Q (xs ++ x) (ls ++ l))
      → AreSent (used wrote went o p) (used emitted went_too m n) xs ls → AreCut P (used wrote went p q) (used emitted went_too n r) ys ks
      → AreCut Q (used wrote went o q) (used emitted went_too m r) (xs ++ ys) (ls ++ ks)
  cut_after P Q o p q m n r xs ls ys ks point s c = record {
    output_count = length xs + c.output_count;
    lines_count = length ls + c.lines_count;
    output_within = omega (arith, c.output_within, length-append xs ys);
    lines_within = omega (arith, c.lines_within, length-append ls ks);
    order = record {
      output = xs ++ c.order.output;
      lines = ls ++ c.order.lines;
      is_point = point c.order.output c.order.lines c.order.is_point;
      output_first = omega (arith, c.order.output_first, length-append xs c.order.output);
      lines_then = omega (arith, c.order.lines_then, length-append ls c.order.lines);
    };
    written = subst (Appends (wrote o) (wrote q)) (sym (take-append-add xs ys c.output_count)) (Appends-trans (wrote o) (wrote p) (wrote q) xs (take c.output_count ys) s.written c.written);
    messages_written = subst (Appends (emitted m) (emitted r)) (sym (take-append-add ls ks c.lines_count)) (Appends-trans (emitted m) (emitted n) (emitted r) ls (take c.lines_count ks) s.messages_written c.messages_written);
    fails = one_fails (went o) (went p) (went q) (went_too m) (went_too n) (went_too r) s.goes_on s.messages_go_on c.fails;
  }

  pub cut_longer : (P Q : List ℕ → List ℕ → Type 0) (o p : A) (m n : B) (xs ls ys ks : List ℕ) → ((x l : List ℕ) → P x l → Q x l) → AreCut P (used wrote went o p) (used emitted went_too m n) xs ls
      → AreCut Q (used wrote went o p) (used emitted went_too m n) (xs ++ ys) (ls ++ ks)
  cut_longer P Q o p m n xs ls ys ks point c = grind (arith, length-append, take-append-le)

  -- the output was sent, and the messages were cut
  pub cut_after_output : (o p : A) (m n : B) (xs ls : List ℕ) (count : ℕ) → count < length ls → Appends (wrote o) (wrote p) xs → Appends (emitted m) (emitted n) (take count ls) → GoesOn (went o) (went p) → FailsOnce (went_too m) (went_too n)
      → AreCut (NoneOrAll xs ls) (used wrote went o p) (used emitted went_too m n) xs ls
  cut_after_output o p m n xs ls count less w t g f = grind (arith, take_all)

  -- the output was cut, and no message was sent
  pub cut_in_output : (o p : A) (m : B) (xs ls : List ℕ) (count : ℕ) → count < length xs → Appends (wrote o) (wrote p) (take count xs) → FailsOnce (went o) (went p) → AreCut (NoneOrAll xs ls) (used wrote went o p) (used emitted went_too m m) xs ls
  cut_in_output o p m xs ls count less w f = record {
    output_count = count;
    lines_count = 0;
    output_within = omega (arith, less);
    lines_within = omega arith;
    order = record { output = []; lines = []; is_point = inl (refl, refl); output_first = omega arith; lines_then = omega arith };
    written = w;
    messages_written = Appends-nil (emitted m);
    fails = inl (f, goes_on_here (went_too m));
  }

  pub fed_nothing : (o : A) (m : B) (e : EngineState) → IsPrompt e.written.format (streams_left e Broken []) → IsFed (used wrote went o o) (used emitted went_too m m) e e []
  fed_nothing o m e prompt = record {
    output = [];
    lines = [];
    prompt = record { format = refl; prompt = prompt };
    sent = record { written = Appends-nil (wrote o); messages_written = Appends-nil (emitted m); goes_on = goes_on_here (went o); messages_go_on = goes_on_here (went_too m) };
    law = λ rest ending. refl;
  }

  pub fed_on : (o p q : A) (m n r : B) (e f g : EngineState) (xs ys : List ℕ) → IsFed (used wrote went o p) (used emitted went_too m n) e f xs → IsFed (used wrote went p q) (used emitted went_too n r) f g ys
      → IsFed (used wrote went o q) (used emitted went_too m r) e g (xs ++ ys)
  fed_on o p q m n r e f g xs ys a b = record {
    output = a.output ++ b.output;
    lines = a.lines ++ b.lines;
    sent = sent_on o p q m n r a.output a.lines b.output b.lines a.sent b.sent;
    prompt = prompt_on e f g a.prompt b.prompt;
    law = λ rest ending. ap (streams_left e ending) (append_assoc xs ys rest) ∙ (a.law (ys ++ rest) ending ∙ (ap (after_bytes a.output a.lines) (b.law rest ending) ∙ sym (with_both_after a.output a.lines b.output b.lines (streams_left g ending rest))));
  }

  pub cut_by : (o p q : A) (m n r : B) (e f : EngineState) (xs rest : List ℕ) (ending : SourceEnding) → IsFed (used wrote went o p) (used emitted went_too m n) e f xs
      → StreamsAreCut (used wrote went p q) (used emitted went_too n r) f ending rest → StreamsAreCut (used wrote went o q) (used emitted went_too m r) e ending (xs ++ rest)
  cut_by o p q m n r e f xs rest ending a c = grind (arith, cut_after, knows_after)

  -- what a front of the rest of a piece brings is sent
  pub front_is_sent : (o p q : A) (m n r : B) (e f g h : EngineState) (piece rest : List ℕ) (count k : ℕ) → rest ≡ drop count piece
      → IsFed (used wrote went o p) (used emitted went_too m n) e f (take count piece) → NothingWaits f → TakesFront f rest k g
      → AreSent (used wrote went p q) (used emitted went_too n r) g.output g.messages → h ≡ record g { output = []; messages = [] }
      → IsFed (used wrote went o q) (used emitted went_too m r) e h (take (count + k) piece)
  front_is_sent o p q m n r e f g h piece rest count k is a waits takes sent forgets = grind (arith, take-add, fed_on, taken_from)

  -- a sink failed at what such a front brings
  pub front_is_cut : (o p q : A) (m n r : B) (e f g : EngineState) (piece rest : List ℕ) (count k : ℕ) (ending : SourceEnding) → rest ≡ drop count piece
      → IsFed (used wrote went o p) (used emitted went_too m n) e f (take count piece) → NothingWaits f → TakesFront f rest k g
      → AreCut (NoneOrAll g.output g.messages) (used wrote went p q) (used emitted went_too n r) g.output g.messages
      → StreamsAreCut (used wrote went o q) (used emitted went_too m r) e ending piece
  front_is_cut o p q m n r e f g piece rest count k ending is a waits takes cut =
      let law = taken_from f g rest k waits takes in
      let front : List ℕ = take k rest in
      let later : List ℕ = drop k rest in
      let here : IsPromptAs f g = record { format = takes.format; prompt = subst (λ (x : Format). IsPrompt x (streams_left g Broken [])) takes.format takes.prompt } in
      let s = streams_left g ending later in
      let same : streams_left f ending rest ≡ after_bytes g.output g.messages s = ap (streams_left f ending) (sym (take-append-drop k rest)) ∙ law later ending in
      let none : Knows f rest ending [] [] = knows_longer f [] rest ending [] [] (knows_here f f [] [] [] (record { format = refl; prompt = subst (λ (x : Format). IsPrompt x (streams_left f Broken [])) (sym a.prompt.format) a.prompt.prompt }) (λ more at. refl)) in
      let all : Knows f rest ending g.output g.messages =
      subst (λ (xs : List ℕ). Knows f xs ending g.output g.messages) (take-append-drop k rest) (knows_longer f front later ending g.output g.messages (knows_here f g front g.output g.messages here law)) in
      let step : StreamsAreCut (used wrote went p q) (used emitted went_too n r) f ending rest =
      subst (λ (y : Streams). AreCut (Knows f rest ending) (used wrote went p q) (used emitted went_too n r) y.output y.messages) (sym same)
      (cut_longer (NoneOrAll g.output g.messages) (Knows f rest ending) p q n r g.output g.messages s.output s.messages (none_or_all f rest ending g.output g.messages none all) cut) in
      subst (StreamsAreCut (used wrote went o q) (used emitted went_too m r) e ending) (ap (λ (xs : List ℕ). take count piece ++ xs) is ∙ take-append-drop count piece)
      (cut_by o p q m n r e f (take count piece) rest ending a step)

  -- ---- an input

  module _ {C : Type 0} (left : C → Option (List ℕ)) (reads_went : C → Calls) where
    pub from_nothing : (s : C) (o : A) (m : B) (e : EngineState) → IsPrompt e.written.format (streams_left e Broken []) → IsFedFrom (used left reads_went s s) (used wrote went o o) (used emitted went_too m m) e e 0
    from_nothing s o m e prompt = record { bytes = []; counted = refl; reads = omega arith; consumed = Consumes-nil (left s); goes_on = goes_on_here (reads_went s); fed = fed_nothing o m e prompt }

    pub from_more : (s t u : C) (o p q : A) (m n r : B) (e f g : EngineState) (xs : List ℕ) (count k : ℕ) → IsFedFrom (used left reads_went s t) (used wrote went o p) (used emitted went_too m n) e f count
        → Consumes (left t) (left u) xs → GoesOn (reads_went t) (reads_went u) → (reads_went u).made ≡ (reads_went t).made + 1 → 0 < k → length xs ≡ k → IsFed (used wrote went p q) (used emitted went_too n r) f g xs
        → IsFedFrom (used left reads_went s u) (used wrote went o q) (used emitted went_too m r) e g (count + k)
    from_more s t u o p q m n r e f g xs count k a c st once some k_is b = record {
      bytes = a.bytes ++ xs;
      counted = omega (arith, a.counted, k_is, length-append a.bytes xs);
      reads = omega (arith, a.reads, once, some);
      consumed = Consumes-trans (left s) (left t) (left u) a.bytes xs a.consumed c;
      goes_on = goes_on_after (reads_went s) (reads_went t) (reads_went u) a.goes_on st;
      fed = fed_on o p q m n r e f g a.bytes xs a.fed b;
    }

    pub in_part : (limit : ℕ) (s t u : C) (o p q : A) (m n r : B) (e f : EngineState) (xs : List ℕ) (count : ℕ) → IsFedFrom (used left reads_went s t) (used wrote went o p) (used emitted went_too m n) e f count
        → Consumes (left t) (left u) xs → GoesOn (reads_went t) (reads_went u) → (reads_went u).made ≡ (reads_went t).made + 1 → 0 < length xs → count + length xs ≤ limit + 1 → ((ending : SourceEnding) → StreamsAreCut (used wrote went p q) (used emitted went_too n r) f ending xs)
        → IsFedInPart limit (used left reads_went s u) (used wrote went o q) (used emitted went_too m r) e
    in_part limit s t u o p q m n r e f xs count a c g once some within cut = record {
      bytes = a.bytes ++ xs;
      consumed = Consumes-trans (left s) (left t) (left u) a.bytes xs a.consumed c;
      goes_on = goes_on_after (reads_went s) (reads_went t) (reads_went u) a.goes_on g;
      reads = omega (arith, a.reads, a.counted, once, some, length-append a.bytes xs);
      within = omega (arith, a.counted, within, length-append a.bytes xs);
      cut = cut_by o p q m n r e f a.bytes xs Broken a.fed (cut Broken);
    }

    pub all_broken : (limit : ℕ) (s t u : C) (o p : A) (m n : B) (e f : EngineState) (count : ℕ) → IsFedFrom (used left reads_went s t) (used wrote went o p) (used emitted went_too m n) e f count
        → Keeps (left t) (left u) → FailsOnce (reads_went t) (reads_went u) → (reads_went u).made ≡ (reads_went t).made + 1 → count ≤ limit + 1 → IsFedAll limit (used left reads_went s u) (used wrote went o p) (used emitted went_too m n) e f Broken
    all_broken limit s t u o p m n e f count a k fails once within = grind (arith, fails_after, Consumes-kept)
