-- A text has no more tokens than bytes.
use Rattle.std.proofs.Common.{ℕ, ◌+◌, ◌≤◌, List, [], ◌∷◌, length, arith}
use Rattle.ev_lex.specs.declared.token.Token.{Token}
use Rattle.ev_lex.specs.declared.token.TokenKind.{TokenKind}
use Rattle.ev_lex.specs.Token.{Spells}
use Rattle.ev_lex.specs.Reading.{Reads, Here, Over, Take, IsCut}
use Rattle.ev_lex.proofs.Ranks.{token_some}

some_byte : (front follow : List ℕ) (k : TokenKind) → Spells front follow k → 1 ≤ length front
some_byte [] follow k s = absurd (token_some follow k s)
some_byte (b ∷ front) follow k s = omega arith

reads_few : {place to : ℕ} {bytes left : List ℕ} {ts : List Token} → Reads place bytes ts to left → place + length ts ≤ to
reads_few Here = omega arith
reads_few (Over front rest e i d) = let le = reads_few d in omega arith
reads_few (Take front rest kind e i d) = let le = reads_few d in let some = some_byte front rest kind i.0 in omega arith

pub few_tokens : (text : List ℕ) (ts : List Token) → IsCut text ts → length ts ≤ length text
few_tokens text ts cut = let le = reads_few cut in omega arith
