-- The rules that look at one declaration, member or item alone, and the least byte at which one fails in a text.
use Rattle.std.specs.Prelude.{ℕ, List, [], Option, None}
use Rattle.sdl_ast.specs.declared.declaration.Decl.{Decl}
use Rattle.sdl_ast.specs.declared.declaration.Decl.TheVariants as decl
use Rattle.sdl_ast.specs.declared.member.Member.{Member}
use Rattle.sdl_ast.specs.declared.member.Member.TheVariants as member
use Rattle.sdl_ast.specs.declared.member.PointerBody.{PointerBody}
use Rattle.sdl_ast.specs.declared.member.PointerBody.TheVariants as body
use Rattle.sdl_ast.specs.declared.item.Item.{Item}
use Rattle.schema_build.specs.declared.local.LocalRule.{LocalRule}
use Rattle.schema_build.specs.declared.local.LocalRule.TheVariants as rule
use Rattle.schema_build.specs.declared.names.Meant.{Meant}
use Rattle.schema_build.specs.Least.{sooner, least_of}
use Rattle.schema_build.specs.Names.{meaning_of}
use Rattle.schema_build.specs.Reserved.{reserved_decl, reserved_member, reserved_item}
use Rattle.schema_build.specs.Unsupported.{unsupported_member, unsupported_item}
use Rattle.schema_build.specs.Known.{unknown_decl, unknown_member, unknown_item}
use Rattle.schema_build.specs.Suits.{unsuited_item}
use Rattle.schema_build.specs.LinkProperties.{misplaced_item, repeated_items}

-- where a rule fails at the items of a pointer as a whole
abbrev pub at_items : LocalRule → List Item → Option ℕ
at_items rule.M10 is = None
at_items rule.M11 is = None
at_items rule.M2 is = None
at_items rule.M5 is = None
at_items rule.M6 is = repeated_items [] is

module _ (types : List (List ℕ)) where
  -- where a rule fails at a declaration itself
  abbrev pub at_decl : LocalRule → Decl → Option ℕ
  at_decl rule.M10 d = reserved_decl d
  at_decl rule.M11 d = None
  at_decl rule.M2 d = unknown_decl types d
  at_decl rule.M5 d = None
  at_decl rule.M6 d = None

  -- where a rule fails at a member itself
  abbrev pub at_member : LocalRule → Member → Option ℕ
  at_member rule.M10 m = reserved_member m
  at_member rule.M11 m = unsupported_member m
  at_member rule.M2 m = unknown_member types m
  at_member rule.M5 m = None
  at_member rule.M6 m = None

  -- where a rule fails at an item of a pointer of a type
  abbrev pub at_item : LocalRule → Option Meant → Item → Option ℕ
  at_item rule.M10 t i = reserved_item i
  at_item rule.M11 t i = unsupported_item i
  at_item rule.M2 t i = unknown_item types i
  at_item rule.M5 t i = unsuited_item t i
  at_item rule.M6 t i = misplaced_item types t i

  -- the least byte at which a rule fails in the braces of a pointer
  abbrev pub in_body : LocalRule → PointerBody → Option ℕ
  in_body r (body.Stored q items) = sooner (at_items r items) (least_of (at_item r (meaning_of types q)) items)
  in_body r (body.Computed e) = None

  -- the least byte at which a rule fails in a member of a type
  abbrev pub in_member : LocalRule → Member → Option ℕ
  in_member r (member.Pointer s p) = sooner (at_member r (member.Pointer s p)) (in_body r p.body)
  in_member r (member.Policy s p) = at_member r (member.Policy s p)
  in_member r (member.Index s e) = at_member r (member.Index s e)
  in_member r (member.Annotation a) = at_member r (member.Annotation a)

  -- the least byte at which a rule fails in a declaration
  abbrev pub in_decl : LocalRule → Decl → Option ℕ
  in_decl r (decl.Type s t) = sooner (at_decl r (decl.Type s t)) (least_of (in_member r) t.members)
  in_decl r (decl.Global s g) = at_decl r (decl.Global s g)

  -- the least byte at which a rule fails in some declarations
  abbrev pub fails_in : LocalRule → List Decl → Option ℕ
  fails_in r ds = least_of (in_decl r) ds
