-- What a run's end is told by: its exit status and its line on standard error.
use Rattle.std.specs.Prelude.{ℕ, Bool, true, false, List, [], ◌++◌, Option, Some, None, codes, decimal}
use Rattle.exact.specs.declared.rule.Rule.{Rule}
use Rattle.exact.specs.declared.rule.Rule.TheVariants.{Unexpected, TooDeep}
use Rattle.ev_value.specs.Item.{fault_number}
use Rattle.ev_value.specs.declared.item.Fault.{Fault}
use Rattle.db_load.specs.declared.refusal.ArgsRule.{ArgsRule}
use Rattle.db_load.specs.declared.refusal.ArgsRule.TheVariants as args_rule
use Rattle.db_load.specs.declared.refusal.BrokenArgs.{BrokenArgs}
use Rattle.db_draft.specs.declared.refusal.Broken.{Broken}
use Rattle.db_draft.specs.declared.refusal.Rule as of_data
use Rattle.db_draft.specs.declared.refusal.Rule.TheVariants as data_rule
use Rattle.schema_build.specs.declared.refusal.Rule as of_schema
use Rattle.schema_build.specs.declared.refusal.Rule.TheVariants as schema_rule
use Rattle.edge_run.specs.declared.outcome.Doc.{Doc}
use Rattle.edge_run.specs.declared.outcome.Doc.TheVariants as doc
use Rattle.edge_run.specs.declared.outcome.SchemaRefusal.{SchemaRefusal}
use Rattle.edge_run.specs.declared.outcome.SchemaRefusal.TheVariants as schema_refusal
use Rattle.edge_run.specs.declared.outcome.UsageRule.{UsageRule}
use Rattle.edge_run.specs.declared.outcome.UsageRule.TheVariants as rule
use Rattle.edge_run.specs.declared.outcome.QueryRefusal.{QueryRefusal}
use Rattle.edge_run.specs.declared.outcome.QueryRefusal.TheVariants as refusal
use Rattle.edge_run.specs.declared.outcome.Outcome.{Outcome}
use Rattle.edge_run.specs.declared.outcome.Outcome.TheVariants as outcome

-- the exit status
abbrev pub status_of : Outcome → ℕ
status_of outcome.Done = 0
status_of (outcome.Usage u) = 2
status_of (outcome.ReadFault d) = 3
status_of (outcome.WriteFault c) = 4
status_of (outcome.SchemaRefused r) = 5
status_of (outcome.DataRefused b) = 6
status_of (outcome.ArgsRefused b) = 7
status_of (outcome.QueryRefused r) = 8
status_of (outcome.RunFault f) = 9
status_of outcome.Memory = 10
status_of (outcome.TooLong d) = 11

-- the line of a rule of the command line that fails
abbrev pub usage_line_of : UsageRule → List ℕ
usage_line_of rule.U1 = codes "usage U1\n"
usage_line_of rule.U2 = codes "usage U2\n"

-- the line of a document that could not be read
abbrev pub read_line_of : Doc → List ℕ
read_line_of doc.Schema = codes "read schema\n"
read_line_of doc.Data = codes "read data\n"
read_line_of doc.Query = codes "read query\n"
read_line_of doc.Args = codes "read args\n"

-- the line of a document that is too long
abbrev pub long_line_of : Doc → List ℕ
long_line_of doc.Schema = codes "long schema\n"
long_line_of doc.Data = codes "long data\n"
long_line_of doc.Query = codes "long query\n"
long_line_of doc.Args = codes "long args\n"

-- the line of a rule that fails at a byte: the byte's number in decimal
abbrev pub byte_line_of : List ℕ → ℕ → List ℕ
byte_line_of rule byte = rule ++ codes " byte " ++ decimal byte ++ codes "\n"

-- the line of a rule of the grammar that refuses a token: the token's number in decimal
abbrev pub token_line_of : List ℕ → ℕ → List ℕ
token_line_of rule token = rule ++ codes " token " ++ decimal token ++ codes "\n"

-- the names of the rules of the grammar, for a schema
abbrev pub schema_syntax_of : Rule → List ℕ
schema_syntax_of Unexpected = codes "schema S2"
schema_syntax_of TooDeep = codes "schema S3"

-- the same for a query
abbrev pub query_syntax_of : Rule → List ℕ
query_syntax_of Unexpected = codes "query S2"
query_syntax_of TooDeep = codes "query S3"

-- the names of the rules of schemas
abbrev pub schema_rule_of : of_schema.Rule → List ℕ
schema_rule_of schema_rule.M1 = codes "schema M1"
schema_rule_of schema_rule.M2 = codes "schema M2"
schema_rule_of schema_rule.M3 = codes "schema M3"
schema_rule_of schema_rule.M4 = codes "schema M4"
schema_rule_of schema_rule.M5 = codes "schema M5"
schema_rule_of schema_rule.M6 = codes "schema M6"
schema_rule_of schema_rule.M10 = codes "schema M10"
schema_rule_of schema_rule.M11 = codes "schema M11"

-- the line of a schema that is refused
abbrev pub schema_line_of : SchemaRefusal → List ℕ
schema_line_of (schema_refusal.Lex byte) = byte_line_of (codes "schema S1") byte
schema_line_of (schema_refusal.Syntax rule token) = token_line_of (schema_syntax_of rule) token
schema_line_of (schema_refusal.Build broken) = byte_line_of (schema_rule_of broken.rule) broken.byte
schema_line_of schema_refusal.Unbuilt = codes "schema unbuilt\n"

-- the names of the rules on data
abbrev pub data_rule_of : of_data.Rule → List ℕ
data_rule_of data_rule.X1 = codes "data X1"
data_rule_of data_rule.X2 = codes "data X2"
data_rule_of data_rule.X3 = codes "data X3"
data_rule_of data_rule.X4 = codes "data X4"
data_rule_of data_rule.X5 = codes "data X5"
data_rule_of data_rule.X6 = codes "data X6"
data_rule_of data_rule.X7 = codes "data X7"
data_rule_of data_rule.X8 = codes "data X8"
data_rule_of data_rule.X9 = codes "data X9"
data_rule_of data_rule.X10 = codes "data X10"
data_rule_of data_rule.X11 = codes "data X11"
data_rule_of data_rule.X12 = codes "data X12"
data_rule_of data_rule.X13 = codes "data X13"

-- the earlier object that a rule on two objects tells
abbrev pub earlier_of : of_data.Rule → Option ℕ → Option ℕ
earlier_of data_rule.X4 other = other
earlier_of data_rule.X13 other = other
earlier_of _ other = None

-- a rule on data that fails, the object, and the earlier object
abbrev pub objects_line_of : List ℕ → Option ℕ → Option ℕ → List ℕ
objects_line_of rule None earlier = rule ++ codes "\n"
objects_line_of rule (Some n) None = rule ++ codes " object " ++ decimal n ++ codes "\n"
objects_line_of rule (Some n) (Some m) = rule ++ codes " object " ++ decimal n ++ codes " object " ++ decimal m ++ codes "\n"

-- the line of data that is refused
abbrev pub data_line_of : Broken → List ℕ
data_line_of broken = objects_line_of (data_rule_of broken.rule) broken.object (earlier_of broken.rule broken.other)

-- the line of a query that is refused
abbrev pub query_line_of : QueryRefusal → List ℕ
query_line_of (refusal.Lex byte) = byte_line_of (codes "query S1") byte
query_line_of (refusal.Syntax rule token) = token_line_of (query_syntax_of rule) token
query_line_of refusal.Unbuilt = codes "query unbuilt\n"

-- the names of the rules on arguments
abbrev pub args_rule_of : ArgsRule → List ℕ
args_rule_of args_rule.A1 = codes "args A1"
args_rule_of args_rule.A2 = codes "args A2"
args_rule_of args_rule.A3 = codes "args A3"
args_rule_of args_rule.A4 = codes "args A4"

-- a rule on arguments that fails, whether it is told of a global, and the name: that of a parameter stands behind `$`
abbrev pub named_line_of : List ℕ → Bool → Option (List ℕ) → List ℕ
named_line_of rule global None = rule ++ codes "\n"
named_line_of rule true (Some name) = rule ++ codes " global " ++ name ++ codes "\n"
named_line_of rule false (Some name) = rule ++ codes " $" ++ name ++ codes "\n"

-- the line of arguments that are refused
abbrev pub args_line_of : BrokenArgs → List ℕ
args_line_of broken = named_line_of (args_rule_of broken.rule) broken.global broken.name

-- the line of a fault in the answer: its number in decimal
abbrev pub fault_line_of : Fault → List ℕ
fault_line_of f = codes "run fault " ++ decimal (fault_number f) ++ codes "\n"

-- the line on standard error; none where the answer was written, or could not be written
abbrev pub line_of : Outcome → List ℕ
line_of outcome.Done = []
line_of (outcome.Usage u) = usage_line_of u
line_of (outcome.ReadFault d) = read_line_of d
line_of (outcome.WriteFault c) = []
line_of (outcome.TooLong d) = long_line_of d
line_of (outcome.SchemaRefused r) = schema_line_of r
line_of (outcome.DataRefused b) = data_line_of b
line_of (outcome.ArgsRefused b) = args_line_of b
line_of (outcome.QueryRefused r) = query_line_of r
line_of (outcome.RunFault f) = fault_line_of f
line_of outcome.Memory = codes "memory\n"
