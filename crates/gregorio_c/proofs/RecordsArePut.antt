-- Records are written one after the other.
use Rattle.std.proofs.Common.{◌≡◌, ℕ, ◌+◌, ◌<◌, ◌++◌, List, [], ◌∷◌, drop, get_or, length, map, set, take, ap, sym, ◌∙◌, arith}
use Rattle.std.proofs.lemmas.List.{append_assoc, drop_more, length-map, length-take-le, map_push, set_at, take_more}

-- One more of them stands before what is as it was.
pub one_more_is_put : {A B : Type 0} (f : A → B) (xs : List A) (old to : List B) (i : ℕ) (d : A) (y : B) → i < length xs → i < length old
    → to ≡ map f (take i xs) ++ drop i old → y ≡ f (get_or xs i d) → set to i y ≡ map f (take (i + 1) xs) ++ drop (i + 1) old
one_more_is_put f xs old to i d y a b it is =
    let put = map f (take i xs) in
    let rest = drop (i + 1) old in
    let all = ap (map f) (take_more xs i d a) ∙ map_push f (take i xs) (get_or xs i d) ∙ ap (λ z. put ++ z ∷ []) (sym is) in
    ap (λ t. set t i y) it
    ∙ ap (λ o. set (put ++ o) i y) (drop_more old i y b)
    ∙ set_at put (get_or old i y) rest y i (length-map (take i xs) f ∙ length-take-le i xs (omega arith))
    ∙ sym (append_assoc put (y ∷ []) rest)
    ∙ ap (λ l. l ++ rest) (sym all)
