-- M11: what the schema language has and this one has not. Modules stand in `foreign_module`.
use Rattle.std.specs.Prelude.{ℕ, Bool, true, false, not, ◌&&◌, List, [], ◌∷◌, codes, is_none, Option, None}
use Rattle.std.specs.Str.{str_eq_ignore_ascii_case}
use Rattle.ast.specs.declared.name.Name.{Name}
use Rattle.sdl_ast.specs.declared.member.Member.{Member}
use Rattle.sdl_ast.specs.declared.member.Member.TheVariants as member
use Rattle.sdl_ast.specs.declared.item.Item.{Item}
use Rattle.sdl_ast.specs.declared.item.Item.TheVariants as item
use Rattle.sdl_ast.specs.declared.item.Deletion.{Deletion}
use Rattle.sdl_ast.specs.declared.item.DeletionWord.{DeletionWord}
use Rattle.sdl_ast.specs.declared.item.DeletionWord.TheVariants as word
use Rattle.schema_build.specs.Least.{at_if}
use Rattle.schema_build.specs.Literal.{literal_type}

-- `overloaded`
abbrev pub unsupported_member : Member → Option ℕ
unsupported_member (member.Pointer s p) = at_if p.overloaded s.start
unsupported_member (member.Policy s p) = None
unsupported_member (member.Index s e) = None
unsupported_member (member.Annotation a) = None

-- the word `restrict`, in small or large letters
abbrev pub says_restrict : DeletionWord → Bool
says_restrict (word.Name n) = str_eq_ignore_ascii_case n.text (codes "restrict")
says_restrict (word.Delete s) = false

-- whether no word stands behind
abbrev pub is_nothing : List Name → Bool
is_nothing [] = true
is_nothing (n ∷ more) = false

-- the word `restrict`, in small or large letters, and no other word
abbrev pub is_restrict : Deletion → Bool
is_restrict d = says_restrict d.first && is_nothing d.more

-- `overloaded`, `delegated`, another deletion rule than `restrict`, a default that is no literal
abbrev pub unsupported_item : Item → Option ℕ
unsupported_item (item.Property s p) = at_if p.overloaded s.start
unsupported_item (item.Constraint s c) = at_if c.delegated s.start
unsupported_item (item.Default s e) = at_if (is_none (literal_type e)) s.start
unsupported_item (item.Deletion s d) = at_if (not (is_restrict d)) s.start
unsupported_item (item.Annotation a) = None
