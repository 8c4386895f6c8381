-- Where the files of a folder stand.
use Rattle.std.specs.Prelude.{◌≢◌, ℕ, ◌+◌, Bool, List, [], ◌∷◌, ◌++◌, length, take, bytes_eq, codes}

-- the path of the file of a name
abbrev pub path_to : List ℕ → List ℕ → List ℕ
path_to folder name = folder ++ (codes "/" ++ name)

-- what the paths of the new files begin with, by which a save replaces that file
abbrev pub front_of : List ℕ → List ℕ → List ℕ
front_of folder name = folder ++ (codes "/." ++ (name ++ codes "."))

-- whether a path in the folder is that of a new file
abbrev pub is_of_new_file : List ℕ → List ℕ → Bool
is_of_new_file folder path = bytes_eq (take (length folder + 2) path) (folder ++ codes "/.")

-- a name of a file of the store has no dot at its front
abbrev pub IsName : List ℕ → Type 0
IsName [] = Unit {0}
IsName (byte ∷ rest) = byte ≢ 46
