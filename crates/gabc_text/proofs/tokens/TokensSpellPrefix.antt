-- The tokens of a text spell a prefix of it.
use Rattle.std.proofs.Common.{◌≡◌, ℕ, List, [], ◌∷◌, ◌++◌, sym, ap, ◌∙◌, append_assoc, append-nil, length, drop}
use Rattle.std.proofs.Math.Seq.{drop-append_seam}
use Rattle.gabc_text.specs.Token.{Token, spelling, tokens}
use Rattle.gabc_text.specs.View.{text_of}
use Rattle.gabc_text.specs.Events.{after_tokens}
use Rattle.gabc_text.specs.Printed.{text_of_tokens}
use Rattle.gabc_text.proofs.tokens.TextIsTokensAndRest.{Parted, parted}
use Rattle.gabc_text.proofs.machine.TokensOneAfterAnother.{onto}

pub text_onto : (ks before : List Token) → text_of (onto ks before) ≡ text_of before ++ text_of_tokens ks
text_onto [] before = sym (append-nil (text_of before))
text_onto (k ∷ ks) before = text_onto ks (k ∷ before) ∙ append_assoc (text_of before) (spelling k) (text_of_tokens ks)

-- what the tokens of a text leave is what follows them
pub left_of : (t : List ℕ) (p : Parted t (tokens t)) → after_tokens t ≡ p.rest
left_of t p =
    ap (λ (x : List ℕ). drop (length x) t) (text_onto (tokens t) []) ∙ ap (drop (length (text_of_tokens (tokens t)))) p.parts ∙ drop-append_seam (text_of_tokens (tokens t)) p.rest

-- a text is what its tokens spell, and what follows them
pub whole_text : (t : List ℕ) → text_of (onto (tokens t) []) ++ after_tokens t ≡ t
whole_text t =
    let p = parted t in
    ap (λ (x : List ℕ). x ++ after_tokens t) (text_onto (tokens t) []) ∙ ap (λ (x : List ℕ). text_of_tokens (tokens t) ++ x) (left_of t p) ∙ sym p.parts
