-- What a reader of UTF-8 reports of bytes is their prefix and its tail.
use Rattle.std.proofs.Common.{◌≡◌, ℕ, ◌<◌, List, length, take, drop, Option, ap, sym, ◌∙◌, arith, length-drop, IsUtf8}
use Rattle.std.proofs.lemmas.Str.{utf8_valid_len-IsUtf8}
use Rattle.std.specs.Str.{chars}
use Rattle.std.specs.Str.Lossy.{utf8_valid_len, utf8_error_len}
use Rattle.std.proofs.lemmas.List.{take_all, take-append-drop}
use Rattle.std.proofs.Math.Seq.{take-append_seam, take-length}
use Rattle.std.proofs.Math.ListN.{drop_of_length-le}
use Rattle.gabc_places.specs.Text.{utf8_prefix_of, tail_of, tail_at, tail_by}
use Rattle.gabc_places.specs.declared.decoded.Tail.TheVariants.{Nothing}

-- of valid bytes the prefix is all of them
pub prefix-whole : (bs : List ℕ) → IsUtf8 bs → chars bs ≡ utf8_prefix_of bs
unfolding utf8_prefix_of
prefix-whole bs u = ap chars (sym (take_all (utf8_valid_len bs) bs (omega (arith, utf8_valid_len-IsUtf8 bs u))))

-- of other bytes the prefix is what is reported to be valid
pub prefix-read : (bs prefix : List ℕ) (n : ℕ) → n ≡ utf8_valid_len bs → prefix ≡ take n bs → chars prefix ≡ utf8_prefix_of bs
unfolding utf8_prefix_of
prefix-read bs prefix n e f = ap chars f ∙ ap (λ k. chars (take k bs)) e

-- a front of some bytes is as many of them as it has
pub front-read : (bs prefix : List ℕ) (n : ℕ) → prefix ≡ take n bs → prefix ≡ take (length prefix) bs
front-read bs prefix n e =
    e ∙ sym (ap (λ (l : List ℕ). take (length l) bs) e ∙ ap (take (length (take n bs))) (sym (take-append-drop n bs)) ∙ take-append_seam (take n bs) (drop n bs))

-- all bytes are as many as there are
pub front-whole : (bs prefix : List ℕ) → prefix ≡ bs → prefix ≡ take (length prefix) bs
front-whole bs prefix e = sym (ap (take (length prefix)) (sym e) ∙ take-length prefix)

-- after valid bytes nothing follows
pub tail-whole : (bs : List ℕ) → IsUtf8 bs → tail_of bs ≡ Nothing
unfolding tail_of
tail-whole bs u = ap tail_at (drop_of_length-le bs {i = utf8_valid_len bs} (omega (arith, utf8_valid_len-IsUtf8 bs u)))

tail_at-some : (bs : List ℕ) → 0 < length bs → tail_at bs ≡ tail_by (utf8_error_len bs)
tail_at-some bs h = grind arith

-- after a prefix that is reported to be valid stands what is reported of the fault
pub tail-read : (bs : List ℕ) (n : ℕ) (o : Option ℕ) → n < length bs → n ≡ utf8_valid_len bs → o ≡ utf8_error_len (drop n bs) → tail_of bs ≡ tail_by o
unfolding tail_of
tail-read bs n o less e f = ap (λ k. tail_at (drop k bs)) (sym e) ∙ tail_at-some (drop n bs) (omega (arith, length-drop n bs)) ∙ ap tail_by (sym f)
