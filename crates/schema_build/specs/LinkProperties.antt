-- M6: link properties that are none.
use Rattle.std.specs.Prelude.{ℕ, Bool, true, false, not, ◌&&◌, ◌||◌, List, [], ◌∷◌, ◌++◌, Option, Some, None}
use Rattle.ast.specs.declared.shape.Need.{Need}
use Rattle.ast.specs.declared.shape.Need.TheVariants as need
use Rattle.ast.specs.declared.shape.Qualifiers.{Qualifiers}
use Rattle.ast.specs.declared.shape.Width.{Width}
use Rattle.ast.specs.declared.shape.Width.TheVariants as width
use Rattle.sdl_ast.specs.declared.item.Item.{Item}
use Rattle.sdl_ast.specs.declared.item.Item.TheVariants as item
use Rattle.schema_build.specs.declared.names.Meant.{Meant}
use Rattle.schema_build.specs.Least.{at_if, sooner}
use Rattle.ev_names.specs.Names.{is_among}
use Rattle.schema_build.specs.Names.{meaning_of, is_object, is_scalar}

-- whether `required` is written
abbrev pub is_required : Option Need → Bool
is_required (Some need.Required) = true
is_required (Some need.Optional) = false
is_required None = false

-- whether `multi` is written
abbrev pub is_multi : Option Width → Bool
is_multi (Some width.Multi) = true
is_multi (Some width.Single) = false
is_multi None = false

-- without `required` and without `multi`
abbrev pub is_plain : Qualifiers → Bool
is_plain q = not (is_required q.need || is_multi q.width)

-- the name of a link property
abbrev pub property_name : Item → List (List ℕ)
property_name (item.Property s p) = p.name.text ∷ []
property_name (item.Constraint s c) = []
property_name (item.Default s e) = []
property_name (item.Deletion s d) = []
property_name (item.Annotation a) = []

-- A link property of a pointer of a type fails where it is not plain, is of no scalar type, or stands on a property.
abbrev pub misplaced_item : List (List ℕ) → Option Meant → Item → Option ℕ
misplaced_item types m (item.Property s p) = at_if (not (is_plain p.qualifiers && (is_scalar (meaning_of types p.ty) && is_object m))) s.start
misplaced_item types m (item.Constraint s c) = None
misplaced_item types m (item.Default s e) = None
misplaced_item types m (item.Deletion s d) = None
misplaced_item types m (item.Annotation a) = None

-- a link property whose name is among those before it
abbrev pub repeated_item : List (List ℕ) → Item → Option ℕ
repeated_item before (item.Property s p) = at_if (is_among p.name.text before) s.start
repeated_item before (item.Constraint s c) = None
repeated_item before (item.Default s e) = None
repeated_item before (item.Deletion s d) = None
repeated_item before (item.Annotation a) = None

-- the least byte of a link property that is written a second time
abbrev pub repeated_items : List (List ℕ) → List Item → Option ℕ
repeated_items before [] = None
repeated_items before (i ∷ more) = sooner (repeated_item before i) (repeated_items (before ++ property_name i) more)
