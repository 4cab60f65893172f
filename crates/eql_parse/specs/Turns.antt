-- Where the reading of nested `if`s stands, as the code keeps it.
use Rattle.std.specs.Prelude.{◌≡◌, List, Result, Ok, Err}
use Rattle.exact.specs.declared.rule.ReadError.{ReadError}
use Rattle.exact.specs.declared.rule.ReadError.TheVariants.{Memory, Refused}
use Rattle.exact.specs.Language.{Step, More, Done}
use Rattle.exact.specs.Reading.{Outcome, Got, Stop}
use Rattle.ev_lex.specs.declared.token.Token.{Token}
use Rattle.eql_grammar.specs.declared.grown.GrownExpr.{GrownExpr}
use Rattle.eql_grammar.specs.Readers as r
use Rattle.eql_parse.specs.declared.choices.Waiting.{Waiting}
use Rattle.eql_parse.specs.declared.choices.Waiting.TheVariants as waiting
use Rattle.eql_parse.specs.declared.choices.Turned.{Turned}
use Rattle.eql_parse.specs.declared.choices.Turned.TheVariants as turned

-- the same in the words of the grammar's readers
abbrev pub waiting_of : Waiting → r.Waiting
waiting_of (waiting.Want frames) = r.Want frames
waiting_of (waiting.Have frame frames x) = r.Have frame frames x

abbrev pub step_of : Turned → Step r.Waiting GrownExpr
step_of (turned.More w) = More (waiting_of w)
step_of (turned.Done x) = Done x

-- The answer is the outcome of a turn, unless memory fails.
abbrev pub ReadsTurn : Outcome Token (Step r.Waiting GrownExpr) → Result Turned ReadError → List Token → Type 0
ReadsTurn outcome (Ok t) new = outcome ≡ Got (step_of t) new
ReadsTurn outcome (Err Memory) new = Unit {0}
ReadsTurn outcome (Err (Refused rule)) new = outcome ≡ Stop rule new
