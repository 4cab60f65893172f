-- The tree of each form, as the code makes the form.
use Rattle.std.proofs.Common.{◌≡◌, ℕ, List, [], ◌∷◌, ◌++◌, Option, Some, None, option_map, option_and_then, refl, sym, ap, ◌∙◌, rules, append_assoc, append-nil}
use denote.Hole.Carrier as carrier
use Rattle.ast.specs.declared.name.Span.{Span}
use Rattle.ast.specs.declared.expression.Expr as e
use Rattle.ast.specs.declared.expression.Expr.TheBlock as block
use Rattle.ast.specs.declared.expression.Binary.{Binary}
use Rattle.ast.specs.declared.expression.Postfix.{Postfix}
use Rattle.ast.specs.declared.statement.Alias.{Alias}
use Rattle.ast.specs.declared.statement.Key.{Key}
use Rattle.ast.specs.declared.statement.For.{For}
use Rattle.ast.specs.declared.statement.Select.{Select}
use Rattle.ast.specs.declared.statement.Statement as s
use Rattle.core_ir.specs.declared.tree.Expr.TheVariants as expr
use Rattle.core_ir.specs.declared.tree.Scope.{Scope}
use Rattle.ev_schema.specs.declared.schema.Schema.{Schema}
use Rattle.ev_value.specs.Casts.{number_written, int64_in, read_item}
use Rattle.ev_value.specs.declared.item.Fault.{Fault}
use Rattle.ev_value.specs.declared.item.Item.TheVariants as item
use Rattle.ev_value.specs.declared.value.Val.{Val}
use Rattle.eql_forms.specs.Built.{number, sum, braces, joined, element, built, built_row, built_all, base_path, bare_path, subject, built_statement, IsPlain}

pub built_int : (at : Span) (digits : List ℕ) → built (e.Int at digits) ≡ number at.start digits
unfolding built
built_int at digits = refl

pub built_group : (at : Span) (inner : e.Expr) → built (e.Group at inner) ≡ built inner
unfolding built block.hidden-the_row-Expr-2 carrier.hidden
built_group at inner = refl

row : (xs : List e.Expr) → built_row (block.hidden-the_row-Expr-0 xs) ≡ built_all xs
unfolding built block.hidden-the_row-Expr-0 carrier.hidden
row [] = refl
row (x ∷ xs) = ap (joined (element x)) (row xs)

pub built_set : (at : Span) (xs : List e.Expr) → built (e.Set at xs) ≡ braces at.start (built_all xs)
unfolding built
built_set at xs = ap (braces at.start) (row xs)

pub built_binary : (at : Span) (b : Binary) → built (e.Binary at b) ≡ sum at.start b.operator (built b.left) (built b.right)
unfolding built block.hidden-the_row-Expr-2 carrier.hidden
built_binary at b = refl

pub postfix_path : (s : Schema) (at : Span) (base : e.Expr) (p : Postfix) → bare_path s (e.Postfix at base p) ≡ base_path s at.start base p
unfolding block.hidden-the_row-Expr-2 carrier.hidden
postfix_path s at base p = refl

abbrev select : Span → List Alias → e.Expr → Option e.Expr → List Key → Option e.Expr → Option e.Expr → s.Statement
select at aliases x filter order offset limit =
    s.Select at aliases (record { subject = x; clauses = record { filter = filter; order = order; offset = offset; limit = limit } })

plain : (schema : Schema) (at : Span) (x : e.Expr) → built_statement schema (select at [] x None [] None None) ≡ subject schema x
unfolding built_statement carrier.hidden block.hidden-the_row-Expr-2 block.hidden-the_row-Alias-5 block.hidden-the_row-Key-4
plain schema at x = refl

plain_parts : (schema : Schema) (at : Span) (aliases : List Alias) (x : e.Expr) (filter : Option e.Expr) (order : List Key) (offset limit : Option e.Expr)
    → aliases ≡ [] → filter ≡ None → order ≡ [] → offset ≡ None → limit ≡ None → built_statement schema (select at aliases x filter order offset limit) ≡ subject schema x
plain_parts schema at aliases x filter order offset limit a f o g l = rw (a, f, o, g, l) (plain schema at x)

pub built_plain : (schema : Schema) (at : Span) (aliases : List Alias) (c : Select) → IsPlain aliases c.clauses → built_statement schema (s.Select at aliases c) ≡ subject schema c.subject
built_plain schema at aliases c (a, none) =
    plain_parts schema at aliases c.subject c.clauses.filter c.clauses.order c.clauses.offset c.clauses.limit a none.0 none.1 none.2 none.3

other_parts : (schema : Schema) (at : Span) (aliases : List Alias) (x : e.Expr) (filter : Option e.Expr) (order : List Key) (offset limit : Option e.Expr)
    → ((aliases ≡ []) × ((filter ≡ None) × (order ≡ []) × (offset ≡ None) × (limit ≡ None)) → ⊥) → built_statement schema (select at aliases x filter order offset limit) ≡ None
unfolding built_statement carrier.hidden block.hidden-the_row-Expr-2 block.hidden-the_row-Alias-5 block.hidden-the_row-Key-4
other_parts schema at aliases x (Some f) order offset limit other = refl
other_parts schema at aliases x None order (Some f) limit other = refl
other_parts schema at aliases x None order None (Some f) other = refl
other_parts schema at (a ∷ more) x None order None None other = refl
other_parts schema at [] x None (k ∷ more) None None other = refl
other_parts schema at [] x None [] None None other = absurd (other (refl, (refl, refl, refl, refl)))

pub built_other : (schema : Schema) (at : Span) (aliases : List Alias) (c : Select) → (IsPlain aliases c.clauses → ⊥) → built_statement schema (s.Select at aliases c) ≡ None
built_other schema at aliases c other = other_parts schema at aliases c.subject c.clauses.filter c.clauses.order c.clauses.offset c.clauses.limit other

pub built_for : (schema : Schema) (at : Span) (aliases : List Alias) (f : For) → built_statement schema (s.For at aliases f) ≡ None
unfolding built_statement
built_for schema at aliases f = refl

-- ---- numbers

pub number_value : (start : ℕ) (digits : List ℕ) (v : Val) → read_item (option_and_then int64_in (number_written digits)) ≡ item.Value v → number start digits ≡ Some (expr.Literal start v)
number_value start digits v e = by (option_and_then int64_in (number_written digits)) e
  where
    by : (o : Option Val) → read_item o ≡ item.Value v → option_map (expr.Literal start) o ≡ Some (expr.Literal start v)
    by (Some w) e = ap (λ x. Some (expr.Literal start x)) (search rules)
    by None e = search rules

pub number_fault : (start : ℕ) (digits : List ℕ) (f : Fault) → read_item (option_and_then int64_in (number_written digits)) ≡ item.Fault f → number start digits ≡ None
number_fault start digits f e = by (option_and_then int64_in (number_written digits)) e
  where
    by : (o : Option Val) → read_item o ≡ item.Fault f → option_map (expr.Literal start) o ≡ None
    by (Some w) e = search rules
    by None e = refl

-- ---- lists of expressions

-- the scopes that are made, with those to come
abbrev pub behind : List Scope → Option (List Scope) → Option (List Scope)
behind made rest = option_map (λ more. made ++ more) rest

pub list_start : (rest : Option (List Scope)) → behind [] rest ≡ rest
list_start None = refl
list_start (Some more) = refl

pub list_end : (made : List Scope) → behind made (Some []) ≡ Some made
list_end made = ap Some (append-nil made)

pub list_turn : (made : List Scope) (found : Option Scope) (scope : Scope) (rest : Option (List Scope)) → found ≡ Some scope
    → behind made (joined found rest) ≡ behind (made ++ scope ∷ []) rest
list_turn made found scope rest e = ap (λ o. behind made (joined o rest)) e ∙ by rest
  where
    by : (o : Option (List Scope)) → behind made (joined (Some scope) o) ≡ behind (made ++ scope ∷ []) o
    by None = refl
    by (Some more) = ap Some (sym (append_assoc made (scope ∷ []) more))

pub list_lost : (made : List Scope) (found : Option Scope) (rest : Option (List Scope)) → found ≡ None → behind made (joined found rest) ≡ None
list_lost made found rest e = ap (λ o. behind made (joined o rest)) e
