-- What a command's word and the rest of its line ask for. Definitions only.
use Rattle.std.specs.Prelude.{◌≡◌, ℕ, ◌≤◌, List, length, Some, None, vec_len, string_bytes, codes}
use Rattle.varisat.specs.declared.request.Request.{Request}
use Rattle.varisat.specs.declared.request.Request.TheVariants.{New, Add, Assume, Solve, Model, Core, Read, Print, Prove, Help, Nothing}

-- a row is no longer than the machine takes
abbrev pub Asked : Request → List ℕ → List ℕ → Type 0
Asked New word rest = (word ≡ codes "new") × (length rest ≡ 0)
Asked (Add row) word rest = (word ≡ codes "add") × (vec_len row ≤ 1048576)
Asked (Assume row) word rest = (word ≡ codes "assume") × (vec_len row ≤ 1048576)
Asked Solve word rest = (word ≡ codes "solve") × (length rest ≡ 0)
Asked Model word rest = (word ≡ codes "model") × (length rest ≡ 0)
Asked Core word rest = (word ≡ codes "core") × (length rest ≡ 0)
Asked (Read file) word rest = (word ≡ codes "read") × (string_bytes file ≡ rest)
Asked Print word rest = (word ≡ codes "print") × (length rest ≡ 0)
Asked (Prove None) word rest = (word ≡ codes "prove") × (length rest ≡ 0)
Asked (Prove (Some file)) word rest = (word ≡ codes "prove") × (string_bytes file ≡ rest)
Asked Help word rest = (word ≡ codes "help") × (length rest ≡ 0)
Asked Nothing word rest = ⊥
