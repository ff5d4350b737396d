-- Files that are kept in memory: pairs of a name and its bytes.
use Rattle.std.specs.Cmp.Lexicographic.{pointwise}
use Rattle.std.specs.Map.{lookup}
use Rattle.std.specs.Prelude.{ℕ, List, Option, Some, None, ◌==◌, take}
use Rattle.enf_io.specs.meaning.Files.{Contents, NoFile, FileBytes}

-- what a look-up found
abbrev pub found_contents : Option (List ℕ) → Contents
found_contents None = NoFile
found_contents (Some bytes) = FileBytes bytes

-- the contents under a name
abbrev pub contents_in : List (List ℕ × List ℕ) → List ℕ → Contents
contents_in files name = found_contents (lookup (pointwise ◌==◌ name) files)

-- the bytes of a file, or the first of them where it has more than so many
abbrev pub front_of : ℕ → Contents → Option (List ℕ)
front_of most NoFile = None
front_of most (FileBytes bytes) = Some (take most bytes)
