use Rattle.schema_build.proofs.EachFile.{each_file}
use Rattle.schema_build.proofs.laws.each_file_is_answered.Goals as goal

pub returns : goal.returns
returns c = each_file
