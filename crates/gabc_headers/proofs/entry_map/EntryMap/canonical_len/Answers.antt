use Rattle.std.proofs.Common.{◌≡◌, ◌<◌, ◌+◌, ◌^◌, ◌-◌, ℕ, length, min, arith, add-one, sym, ap, ◌∙◌, suc, drop, List, ◌∷◌}
use Rattle.std.specs.Str.{chars}
use lib.Utf8.{encodes}
use Rattle.gabc_headers.proofs.entries.TextsAsBytes.{length-encodes}
use Rattle.gabc_headers.specs.Lines.{bytes_len}
use Rattle.gabc_headers.specs.Canonical.{header_line, header_lines}
use Rattle.gabc_headers.specs.Entries.{spelled_entries}
use Rattle.gabc_headers.proofs.entries.MapIsReadByEntry.{spelled_here, spelled_none, lines_cons, sum_next}
use Rattle.gabc_headers.proofs.entry_map.EntryMap.canonical_len.Goals as goal

-- a count that takes more stays a count
count_fits : (n b m : ℕ) → n < 2 ^ 64 → m ≡ n + min b (2 ^ 64 - 1 - n) → m < 2 ^ 64
count_fits n b m h e = omega arith

pub loop-index-preserved : goal.loop-index-preserved
loop-index-preserved c =
    let rest = spelled_entries c.args.text.now (drop (suc c.loop-index.index) c.args.self.now.0) in
    let line : List ℕ × List ℕ = (chars c.name.result.now, chars c.value_in.result.now) in
    let here : spelled_entries c.args.text.now (drop c.loop-index.index c.args.self.now.0) ≡ line ∷ rest
    = spelled_here c.args.text.now c.args.self.now.0 c.loop-index.index c.name.result.now c.value_in.result.now c.name.ensures c.value_in.ensures in
    let sum = ap (λ (x : List (List ℕ × List ℕ)). bytes_len (header_lines x)) here ∙ lines_cons line rest in
    record {
      fits = count_fits c.loop-index.counter _ _ c.loop-index.invariant.fits c.put_header.ensures;
      sum = rw add-one (sum_next c.loop-index.counter (bytes_len (header_line line)) (bytes_len (header_lines rest)) (min (bytes_len (header_lines (spelled_entries c.args.text.now c.args.self.now.0))) (2 ^ 64 - 1))
          (length (encodes (header_line line))) c.put_header.new.out (sym (ap (λ (n : ℕ). min (c.loop-index.counter + n) (2 ^ 64 - 1)) sum) ∙ c.loop-index.invariant.sum) (length-encodes (header_line line)) c.put_header.ensures);
    }

pub returns : goal.returns
returns c = grind (arith, spelled_none)
