-- M2: names of types that are not known, or do not suit where they stand.
use Rattle.std.specs.Prelude.{ℕ, Bool, true, false, not, List, Option, Some, None}
use Rattle.ast.specs.declared.name.QualifiedName.{QualifiedName}
use Rattle.sdl_ast.specs.declared.declaration.Decl.{Decl}
use Rattle.sdl_ast.specs.declared.declaration.Decl.TheVariants as decl
use Rattle.sdl_ast.specs.declared.member.Member.{Member}
use Rattle.sdl_ast.specs.declared.member.Member.TheVariants as member
use Rattle.sdl_ast.specs.declared.member.PointerBody.{PointerBody}
use Rattle.sdl_ast.specs.declared.member.PointerBody.TheVariants as body
use Rattle.sdl_ast.specs.declared.member.PointerKind.{PointerKind}
use Rattle.sdl_ast.specs.declared.member.PointerKind.TheVariants as kind
use Rattle.sdl_ast.specs.declared.item.Item.{Item}
use Rattle.sdl_ast.specs.declared.item.Item.TheVariants as item
use Rattle.schema_build.specs.declared.names.Meant.{Meant}
use Rattle.schema_build.specs.Least.{at_if, least_of}
use Rattle.ast.specs.Name.{start_of}
use Rattle.schema_build.specs.Names.{meaning_of, is_object, is_scalar}

-- what `property` and `link` take: a scalar type, an object type; without either word, any type
abbrev pub takes : Option PointerKind → Option Meant → Bool
takes _ None = false
takes None (Some m) = true
takes (Some kind.Property) (Some m) = is_scalar (Some m)
takes (Some kind.Link) (Some m) = is_object (Some m)

module _ (types : List (List ℕ)) where
  -- a base that is no object type
  abbrev pub bad_base : QualifiedName → Option ℕ
  bad_base q = at_if (not (is_object (meaning_of types q))) (start_of q)

  -- a type with such a base, or a global of no scalar type
  abbrev pub unknown_decl : Decl → Option ℕ
  unknown_decl (decl.Type s t) = least_of bad_base t.bases
  unknown_decl (decl.Global s g) = at_if (not (is_scalar (meaning_of types g.ty))) (start_of g.ty)

  -- a stored pointer whose type is unknown or does not suit the word before its name
  abbrev pub unknown_body : Option PointerKind → PointerBody → Option ℕ
  unknown_body k (body.Stored q items) = at_if (not (takes k (meaning_of types q))) (start_of q)
  unknown_body k (body.Computed e) = None

  -- a stored pointer of such a type
  abbrev pub unknown_member : Member → Option ℕ
  unknown_member (member.Pointer s p) = unknown_body p.kind p.body
  unknown_member (member.Policy s p) = None
  unknown_member (member.Index s e) = None
  unknown_member (member.Annotation a) = None

  -- a link property whose type is unknown or does not suit the word before its name
  abbrev pub unknown_item : Item → Option ℕ
  unknown_item (item.Property s p) = at_if (not (takes p.kind (meaning_of types p.ty))) (start_of p.ty)
  unknown_item (item.Constraint s c) = None
  unknown_item (item.Default s e) = None
  unknown_item (item.Deletion s d) = None
  unknown_item (item.Annotation a) = None
