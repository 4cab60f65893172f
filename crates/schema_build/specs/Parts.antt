-- What a schema text declares, and what of it has no schema yet.
use Rattle.std.specs.Prelude.{ℕ, Bool, true, false, List, [], ◌∷◌, ◌++◌, not, codes, Option, None}
use Rattle.std.specs.List.{list_any}
use Rattle.std.specs.Str.{bytes_eq}
use Rattle.sdl_ast.specs.Places.{decl_span}
use Rattle.sdl_ast.specs.declared.declaration.Decl.{Decl}
use Rattle.sdl_ast.specs.declared.declaration.Decl.TheVariants as decl
use Rattle.sdl_ast.specs.declared.declaration.FilePart.{FilePart}
use Rattle.sdl_ast.specs.declared.declaration.FilePart.TheVariants as part
use Rattle.sdl_ast.specs.declared.declaration.TypeDecl.{TypeDecl}
use Rattle.sdl_ast.specs.declared.member.Member.{Member}
use Rattle.sdl_ast.specs.declared.member.Member.TheVariants as member
use Rattle.sdl_ast.specs.declared.member.PointerBody.{PointerBody}
use Rattle.sdl_ast.specs.declared.member.PointerBody.TheVariants as body
use Rattle.schema_build.specs.Least.{at_if}

-- the declarations of a part of a text
abbrev pub decls_in : FilePart → List Decl
decls_in (part.Module m) = m.decls
decls_in (part.Decl d) = d ∷ []

-- the declarations of a text, in its order
abbrev pub decls_of : List FilePart → List Decl
decls_of [] = []
decls_of (p ∷ more) = decls_in p ++ decls_of more

-- a module that is not `default`
abbrev pub foreign_module : FilePart → Option ℕ
foreign_module (part.Module m) = at_if (not (bytes_eq m.name.text (codes "default"))) m.span.start
foreign_module (part.Decl d) = None

-- where a declaration stands
abbrev pub starts : Decl → ℕ
starts d = (decl_span d).start

-- what a declaration says of a type
abbrev pub type_in : Decl → List TypeDecl
type_in (decl.Type s t) = t ∷ []
type_in (decl.Global s g) = []

-- the types of some declarations, in their order: the type with a number stands at that place
abbrev pub types_of : List Decl → List TypeDecl
types_of [] = []
types_of (d ∷ more) = type_in d ++ types_of more

-- the name of a type
abbrev pub name_of : TypeDecl → List ℕ
name_of t = t.name.text

-- whether a pointer has an expression
abbrev pub is_computed : PointerBody → Bool
is_computed (body.Computed e) = true
is_computed (body.Stored t items) = false

-- a computed pointer, or a policy
abbrev pub is_unbuilt_member : Member → Bool
is_unbuilt_member (member.Pointer s p) = is_computed p.body
is_unbuilt_member (member.Policy s p) = true
is_unbuilt_member (member.Index s e) = false
is_unbuilt_member (member.Annotation a) = false

-- whether a declaration has a computed pointer or a policy
abbrev pub has_unbuilt : Decl → Bool
has_unbuilt (decl.Type s t) = list_any is_unbuilt_member t.members
has_unbuilt (decl.Global s g) = false
