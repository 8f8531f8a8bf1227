-- Written words as bytes.
use Rattle.std.specs.Prelude.{ℕ, List, [], ◌∷◌}
use Prim.Native.Char.{code}
use Prim.Native.String.{String, [] as nothing, ◌∷◌ as ◌then◌}

-- the bytes of a word
abbrev pub letters : String → List ℕ
letters nothing = []
letters (c then s) = code c ∷ letters s
