-- The form of a document.
use Rattle.std.specs.Prelude.{ℕ, suc, ◌==◌, Bool, false, List, [], ◌∷◌, ◌++◌, codes, Option, Some, None, if◌then◌else◌}
use Rattle.serde_json.specs.Data.{unsigned, Data, null, boolean, number, string, array, object, Items, no_items, item, Members, no_members, member}
use Rattle.serde_json.specs.Find.{get_member}
use Rattle.db_draft.specs.declared.draft.ObjectDraft.{ObjectDraft}
use Rattle.db_load.specs.Drafts.{object_of}

-- the drafts of an array's objects behind others, if each element is an object
abbrev pub drafts_of : List ObjectDraft → Items → Option (List ObjectDraft)
drafts_of found no_items = Some found
drafts_of found (item (object ms) ds) = drafts_of (found ++ object_of ms ∷ []) ds
drafts_of found (item null ds) = None
drafts_of found (item (boolean b) ds) = None
drafts_of found (item (number n) ds) = None
drafts_of found (item (string s) ds) = None
drafts_of found (item (array items) ds) = None

-- how many members there are
abbrev pub count : Members → ℕ
count no_members = 0
count (member k d ms) = suc (count ms)

-- the number of the format
abbrev pub is_format : Option Data → Bool
is_format (Some (number (unsigned n))) = n == 1
is_format _ = false

abbrev pub objects_in : Option Data → Option (List ObjectDraft)
objects_in (Some (array ds)) = drafts_of [] ds
objects_in _ = None

-- The objects of a document: it is an object with the keys `format`, whose value is the number 1, and `objects`, whose value is an array of
-- objects, and with no other key.
abbrev pub document_in : Members → Option (List ObjectDraft)
document_in ms =
    if count ms == 2
    then (if is_format (get_member (codes "format") ms) then objects_in (get_member (codes "objects") ms) else None)
    else None

abbrev pub document : Data → Option (List ObjectDraft)
document (object ms) = document_in ms
document null = None
document (boolean b) = None
document (number n) = None
document (string s) = None
document (array ds) = None
