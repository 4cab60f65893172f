-- What the code's two maps hold.
use Rattle.serde_json.specs.View.{members_view}
use Rattle.db_load.specs.Sections as form
use Rattle.db_load.specs.declared.sections.Sections.{Sections}

abbrev pub seen : Sections → form.Sections
seen s = record { globals = members_view s.globals.entries; params = members_view s.params.entries }
