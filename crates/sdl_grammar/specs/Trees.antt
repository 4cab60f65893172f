-- What is built of what was read, and where it stands in the text.
use Rattle.std.specs.Prelude.{ℕ, Bool, true, false, List, [], ◌∷◌, ◌++◌, Option, Some, None}
use Rattle.ast.specs.declared.name.Span.{Span}
use Rattle.ast.specs.declared.name.Name.{Name}
use Rattle.ast.specs.declared.name.QualifiedName.{QualifiedName}
use Rattle.ast.specs.declared.expression.Expr.{Expr}
use Rattle.ast.specs.declared.shape.Qualifiers.{Qualifiers}
use Rattle.eql_grammar.specs.declared.grown.GrownExpr.{GrownExpr}
use Rattle.eql_grammar.specs.declared.grown.Bunch.{Bunch}
use Rattle.eql_grammar.specs.declared.grown.Qualified.{Qualified}
use Rattle.sdl_ast.specs.declared.declaration.SdlFile.{SdlFile}
use Rattle.sdl_ast.specs.declared.declaration.FilePart.{FilePart}
use Rattle.sdl_ast.specs.declared.declaration.FilePart.TheVariants as part
use Rattle.sdl_ast.specs.declared.declaration.Decl.{Decl}
use Rattle.sdl_ast.specs.declared.declaration.Decl.TheVariants as decl
use Rattle.sdl_ast.specs.declared.member.Member.{Member}
use Rattle.sdl_ast.specs.declared.member.Member.TheVariants as member
use Rattle.sdl_ast.specs.declared.member.PointerKind.{PointerKind}
use Rattle.sdl_ast.specs.declared.member.PointerBody.TheVariants as body
use Rattle.sdl_ast.specs.declared.member.Annotation.{Annotation}
use Rattle.sdl_ast.specs.declared.member.Action.{Action}
use Rattle.sdl_ast.specs.declared.member.PolicyKinds.{PolicyKinds}
use Rattle.sdl_ast.specs.declared.item.Item.{Item}
use Rattle.sdl_ast.specs.declared.item.Item.TheVariants as item
use Rattle.sdl_ast.specs.declared.item.DeletionWord.{DeletionWord}
use Rattle.sdl_grammar.specs.declared.part.Quals.{Quals}
use Rattle.sdl_grammar.specs.declared.part.PointerHead.{PointerHead}
use Rattle.sdl_grammar.specs.declared.part.EndedExpr.{EndedExpr}
use Rattle.sdl_grammar.specs.declared.part.NoteBlock.{NoteBlock}
use Rattle.sdl_grammar.specs.declared.part.ItemBlock.{ItemBlock}
use Rattle.sdl_grammar.specs.declared.part.MemberBlock.{MemberBlock}

-- the bytes from the one to before the other
abbrev pub bytes : ℕ → ℕ → Span
bytes start end = record { start = start; end = end }

-- a list with one more item behind it
abbrev pub behind : {A : Type 0} → List A → A → List A
behind all x = all ++ x ∷ []

-- ---- parts

-- An expression with the semicolon behind it.
abbrev pub ended : GrownExpr → Span → EndedExpr
ended x semicolon = record { expr = x.expr; end = semicolon.end }

-- An annotation from its first word to its semicolon.
abbrev pub annotation : ℕ → Name → EndedExpr → Annotation
annotation start name x = record { span = bytes start x.end; name = name; value = x.expr }

-- Annotations that end before this byte.
abbrev pub notes : List Annotation → ℕ → NoteBlock
notes all end = record { items = all; end = end }

-- Items that end before this byte.
abbrev pub items : List Item → ℕ → ItemBlock
items all end = record { items = all; end = end }

-- Members that end before this byte.
abbrev pub members : List Member → ℕ → MemberBlock
members all end = record { items = all; end = end }

-- ---- the words before a pointer's name

-- None of the words of need and width.
abbrev pub no_qualifiers : Qualifiers
no_qualifiers = record { need = None; width = None }

-- No words before a name.
abbrev pub no_quals : Quals
no_quals = record { start = None; overloaded = false; qualifiers = no_qualifiers }

-- `overloaded`, from this byte on
abbrev pub overloaded : ℕ → Quals
overloaded start = record { start = Some start; overloaded = true; qualifiers = no_qualifiers }

-- A pointer begins at the first of the words before its name, or else here.
abbrev pub start_of : Option ℕ → ℕ → ℕ
start_of None here = here
start_of (Some start) here = start

-- the words of need and width behind `overloaded`, or behind nothing
abbrev pub qualified : Quals → Qualified → Quals
qualified before q = record { start = Some (start_of before.start q.start); overloaded = before.overloaded; qualifiers = q.qualifiers }

-- `single` or `multi`, and then `required` or `optional`
abbrev pub turned_words : Qualified → Qualified → Qualified
turned_words first second = record { start = first.start; qualifiers = record { need = second.qualifiers.need; width = first.qualifiers.width } }

-- a pointer up to its name; where no words stand before it begins at the byte `here`
abbrev pub pointer_head : Quals → ℕ → Option PointerKind → Name → PointerHead
pointer_head q here kind name = record { start = start_of q.start here; overloaded = q.overloaded; qualifiers = q.qualifiers; kind = kind; name = name }

-- the same of one that begins with its name
abbrev pub bare_head : Quals → Name → PointerHead
bare_head q name = pointer_head q name.span.start None name

-- ---- items

-- A property of a link.
abbrev pub link_property : PointerHead → QualifiedName → NoteBlock → Item
link_property head ty block = item.Property (bytes head.start block.end) (record { overloaded = head.overloaded; qualifiers = head.qualifiers; kind = head.kind; name = head.name; ty = ty; annotations = block.items })

-- A constraint with its arguments.
abbrev pub constraint : ℕ → Bool → Name → Bunch → Span → Item
constraint start delegated name all semicolon = item.Constraint (bytes start semicolon.end) (record { delegated = delegated; name = name; arguments = all.items })

-- A default.
abbrev pub default_item : ℕ → EndedExpr → Item
default_item start x = item.Default (bytes start x.end) x.expr

-- What becomes of an object whose target is deleted.
abbrev pub deletion : ℕ → DeletionWord → List Name → Span → Item
deletion start first more semicolon = item.Deletion (bytes start semicolon.end) (record { first = first; more = more })

-- ---- members

-- A stored pointer with its items.
abbrev pub stored : PointerHead → QualifiedName → ItemBlock → Member
stored head ty block = member.Pointer (bytes head.start block.end) (record { overloaded = head.overloaded; qualifiers = head.qualifiers; kind = head.kind; name = head.name; body = body.Stored ty block.items })

-- A computed pointer.
abbrev pub computed : PointerHead → EndedExpr → Member
computed head x = member.Pointer (bytes head.start x.end) (record { overloaded = head.overloaded; qualifiers = head.qualifiers; kind = head.kind; name = head.name; body = body.Computed x.expr })

-- An index.
abbrev pub index : ℕ → Expr → Span → Member
index start x semicolon = member.Index (bytes start semicolon.end) x

-- An access policy with its annotations.
abbrev pub policy : ℕ → Name → Action → PolicyKinds → Option Expr → NoteBlock → Member
policy start name action kinds condition block = member.Policy (bytes start block.end) (record { name = name; action = action; kinds = kinds; condition = condition; annotations = block.items })

-- ---- declarations

-- A type with its members.
abbrev pub type_decl : ℕ → Bool → Name → List QualifiedName → MemberBlock → Decl
type_decl start is_abstract name bases block = decl.Type (bytes start block.end) (record { is_abstract = is_abstract; name = name; bases = bases; members = block.items })

-- A global.
abbrev pub global_decl : ℕ → Name → QualifiedName → Span → Decl
global_decl start name ty semicolon = decl.Global (bytes start semicolon.end) (record { name = name; ty = ty })

-- A module with its declarations.
abbrev pub module_of : ℕ → Name → List Decl → ℕ → FilePart
module_of start name decls end = part.Module (record { span = bytes start end; name = name; decls = decls })

-- A file without parts.
abbrev pub no_parts : SdlFile
no_parts = record { parts = [] }

-- A file with one more part behind the others.
abbrev pub with_part : SdlFile → FilePart → SdlFile
with_part file p = record { parts = behind file.parts p }
