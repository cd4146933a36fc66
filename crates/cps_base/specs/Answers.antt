-- What a reader answers: what a definition gives, unless memory ran out; and how such answers follow each other.
use Rattle.std.specs.Prelude.{◌≡◌, ◌⊎◌, Result, Ok, Err}

-- an answer, and what is made of it; a fault stays
infixl 10 ◌>>=◌
abbrev pub ◌>>=◌ : {A B E : Type 0} → Result A E → (A → Result B E) → Result B E
(Ok x) >>= f = f x
(Err e) >>= f = Err e

-- a fault, under another name
abbrev pub fault_as : {X E F : Type 0} → (E → F) → Result X E → Result X F
fault_as f (Ok x) = Ok x
fault_as f (Err e) = Err (f e)

-- the value of an `Ok`, as f shows it
abbrev pub ok_map : {X Y E : Type 0} → (X → Y) → Result X E → Result Y E
ok_map f (Ok x) = Ok (f x)
ok_map f (Err e) = Err e

-- what was read has this fault, unless it says that memory ran out
abbrev pub Fails : {X E : Type 0} → E → E → Result X E → Type 0
Fails memory e read = (e ≡ memory) ⊎ (read ≡ Err e)

-- an answer is what was read, unless memory ran out
abbrev pub Gives : {X E : Type 0} → E → Result X E → Result X E → Type 0
Gives memory (Ok x) read = read ≡ Ok x
Gives memory (Err e) read = Fails memory e read

-- the same of a value that shows another
abbrev pub GivesAs : {X Y E : Type 0} → E → (X → Y) → Result X E → Result Y E → Type 0
GivesAs memory view (Ok x) read = read ≡ Ok (view x)
GivesAs memory view (Err e) read = Fails memory e read
