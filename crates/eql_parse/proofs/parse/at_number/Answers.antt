use Rattle.std.proofs.Common.{◌∙◌, ap, arith, drop}
use Rattle.std.proofs.lemmas.List.{take_all, length-drop}
use Rattle.eql_parse.proofs.parse.at_number.Goals as goal

pub returns : goal.returns
returns c =
    let ts = c.as_slice.result.now in
    c.new.ensures ∙ take_all _ (drop c.args.from ts) (omega (arith, length-drop c.args.from ts)) ∙ ap (drop c.args.from) c.as_slice.ensures
