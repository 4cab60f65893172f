-- M1: types and globals that are declared twice. The names of types and those of globals are apart.
use Rattle.std.specs.Prelude.{ℕ, List, [], ◌∷◌, ◌++◌, Option, None}
use Rattle.sdl_ast.specs.declared.declaration.Decl.{Decl}
use Rattle.sdl_ast.specs.declared.declaration.Decl.TheVariants as decl
use Rattle.schema_build.specs.Least.{at_if, sooner}
use Rattle.ev_names.specs.Names.{is_among}

-- the name of a type that is declared
abbrev pub type_name : Decl → List (List ℕ)
type_name (decl.Type s t) = t.name.text ∷ []
type_name (decl.Global s g) = []

-- the name of a global that is declared
abbrev pub global_name : Decl → List (List ℕ)
global_name (decl.Type s t) = []
global_name (decl.Global s g) = g.name.text ∷ []

-- the names of types, in the order of the text
abbrev pub type_names : List Decl → List (List ℕ)
type_names [] = []
type_names (d ∷ more) = type_name d ++ type_names more

-- a declaration whose name is among those of its kind before it
abbrev pub repeated : List (List ℕ) → List (List ℕ) → Decl → Option ℕ
repeated types globals (decl.Type s t) = at_if (is_among t.name.text types) s.start
repeated types globals (decl.Global s g) = at_if (is_among g.name.text globals) s.start

-- the least byte of a declaration that repeats an earlier one, or one of these names of types and globals
abbrev pub repeats_after : List (List ℕ) → List (List ℕ) → List Decl → Option ℕ
repeats_after types globals [] = None
repeats_after types globals (d ∷ more) =
    sooner (repeated types globals d) (repeats_after (types ++ type_name d) (globals ++ global_name d) more)

-- M1: the least byte of a declaration that repeats an earlier one
abbrev pub repeats : List Decl → Option ℕ
repeats ds = repeats_after [] [] ds
