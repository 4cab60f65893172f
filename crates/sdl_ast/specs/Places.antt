-- Where declarations, members and items stand in the text.
use Rattle.ast.specs.declared.name.Span.{Span}
use Rattle.sdl_ast.specs.declared.declaration.Decl.{Decl}
use Rattle.sdl_ast.specs.declared.declaration.Decl.TheVariants as decl
use Rattle.sdl_ast.specs.declared.member.Member.{Member}
use Rattle.sdl_ast.specs.declared.member.Member.TheVariants as member
use Rattle.sdl_ast.specs.declared.item.Item.{Item}
use Rattle.sdl_ast.specs.declared.item.Item.TheVariants as item

-- the bytes of a declaration
abbrev pub decl_span : Decl → Span
decl_span (decl.Type s _) = s
decl_span (decl.Global s _) = s

-- the bytes of a member
abbrev pub member_span : Member → Span
member_span (member.Pointer s _) = s
member_span (member.Policy s _) = s
member_span (member.Index s _) = s
member_span (member.Annotation a) = a.span

-- the bytes of an item
abbrev pub item_span : Item → Span
item_span (item.Constraint s _) = s
item_span (item.Default s _) = s
item_span (item.Deletion s _) = s
item_span (item.Annotation a) = a.span
item_span (item.Property s _) = s
