-- M10: names that are not free.
use Rattle.std.specs.Prelude.{ℕ, Bool, ◌||◌, List, codes, eqb, is_some, Option, None}
use Rattle.std.specs.List.{starts_with}
use Rattle.std.specs.Str.{bytes_eq}
use Rattle.sdl_ast.specs.declared.declaration.Decl.{Decl}
use Rattle.sdl_ast.specs.declared.declaration.Decl.TheVariants as decl
use Rattle.sdl_ast.specs.declared.member.Member.{Member}
use Rattle.sdl_ast.specs.declared.member.Member.TheVariants as member
use Rattle.sdl_ast.specs.declared.item.Item.{Item}
use Rattle.sdl_ast.specs.declared.item.Item.TheVariants as item
use Rattle.schema_build.specs.Least.{at_if}
use Rattle.ev_names.specs.Scalar.{scalar_named}

-- a name that begins with two low lines
abbrev pub is_dunder : List ℕ → Bool
is_dunder name = starts_with eqb name (codes "__")

-- a type has the name of a scalar type, or a type or a global begins so
abbrev pub reserved_decl : Decl → Option ℕ
reserved_decl (decl.Type s t) = at_if (is_some (scalar_named t.name.text) || is_dunder t.name.text) s.start
reserved_decl (decl.Global s g) = at_if (is_dunder g.name.text) s.start

-- a pointer is named `id`, or a pointer or a policy begins so
abbrev pub reserved_member : Member → Option ℕ
reserved_member (member.Pointer s p) = at_if (bytes_eq p.name.text (codes "id") || is_dunder p.name.text) s.start
reserved_member (member.Policy s p) = at_if (is_dunder p.name.text) s.start
reserved_member (member.Index s e) = None
reserved_member (member.Annotation a) = None

-- a link property begins so
abbrev pub reserved_item : Item → Option ℕ
reserved_item (item.Property s p) = at_if (is_dunder p.name.text) s.start
reserved_item (item.Constraint s c) = None
reserved_item (item.Default s e) = None
reserved_item (item.Deletion s d) = None
reserved_item (item.Annotation a) = None
