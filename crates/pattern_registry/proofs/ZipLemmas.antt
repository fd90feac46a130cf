-- Two lists whose items are related place by place.
use Rattle.std.proofs.Common.{List, [], ◌∷◌, ◌++◌}
use Rattle.std.specs.List.{AllZip}

module _ {X Y : Type 0} (R : X → Y → Type 0) where
  pub AllZip-append : (xs us : List X) (ys vs : List Y) → AllZip R xs ys → AllZip R us vs → AllZip R (xs ++ us) (ys ++ vs)
  AllZip-append [] us [] vs a b = b
  AllZip-append [] us (y ∷ ys) vs a b = absurd a
  AllZip-append (x ∷ xs) us [] vs a b = absurd a
  AllZip-append (x ∷ xs) us (y ∷ ys) vs a b = (a.0, AllZip-append xs us ys vs a.1 b)
