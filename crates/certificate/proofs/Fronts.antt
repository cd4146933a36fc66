-- A list that is read item by item: the items so far before the rest.
use Rattle.std.proofs.Common.{List, ◌++◌, Option, Some, None}
use Rattle.certificate.specs.States.{Pair}

abbrev pub with_front : List Pair → Option (List Pair) → Option (List Pair)
with_front front (Some rest) = Some (front ++ rest)
with_front front None = None
