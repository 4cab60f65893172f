-- The factored prefixes of a scope: the paths that it binds, each in a loop of its own.
use Rattle.std.specs.Prelude.{ℕ, zero, suc, ◌+◌, Bool, not, ◌&&◌, ◌||◌, List, [], ◌∷◌, ◌++◌, length, filter, flat_map, if◌then◌else◌}
use Rattle.std.specs.List.{list_any, list_all}
use Rattle.core_ir.specs.declared.path.Path.{Path}
use Rattle.core_ir.specs.declared.tree.Occurrence.{Occurrence}
use Rattle.core_ir.specs.Path.{root_eq, path_eq, alike, prefix, begins}
use Rattle.core_ir.specs.declared.tree.Direct.{Direct}
use Rattle.path_scope.specs.declared.prefix.Prefix.{Prefix}

-- whether a path is the longest that two paths begin with, of at least their root
abbrev pub is_common : Path → Path → Path → Bool
is_common p a b = root_eq a.root b.root && path_eq p (prefix (alike a.steps b.steps) a)

-- whether a path is the longest common prefix of some direct occurrence and some occurrence, itself included
abbrev pub joins : List Direct → List Occurrence → Path → Bool
joins ds os p = list_any (λ d. list_any (λ o. is_common p d.occurrence.path o.path) os) ds

-- whether each direct occurrence that a path begins is optional
abbrev pub is_optional : List Direct → Path → Bool
is_optional ds p = list_all (λ d. not (begins p d.occurrence.path) || d.optional) ds

-- whether a path is one of a list
abbrev pub is_bound : List Path → Path → Bool
is_bound bound p = list_any (path_eq p) bound

-- the root and the first n steps of an occurrence, as a prefix of a scope with these direct occurrences
abbrev pub prefix_at : List Direct → Occurrence → ℕ → Prefix
prefix_at ds o n = record { path = prefix n o.path; name = o.name; optional = is_optional ds (prefix n o.path) }

-- what an occurrence begins with: its root and the first n steps, and so on with more steps
abbrev pub beginnings : List Direct → Occurrence → ℕ → ℕ → List Prefix
beginnings ds o n zero = []
beginnings ds o n (suc more) = prefix_at ds o n ∷ beginnings ds o (n + 1) more

-- all that an occurrence begins with, its root alone first
abbrev pub prefixes_of : List Direct → Occurrence → List Prefix
prefixes_of ds o = beginnings ds o 0 (suc (length o.path.steps))

-- whether a path stands among prefixes
abbrev pub is_listed : List Prefix → Path → Bool
is_listed found p = list_any (λ f. path_eq p f.path) found

-- the prefixes of the second list behind those of the first, each path where it stands first
abbrev pub added : List Prefix → List Prefix → List Prefix
added found [] = found
added found (p ∷ more) = added (if is_listed found p.path then found else found ++ p ∷ []) more

-- whether a scope with these occurrences binds a prefix, where these paths are bound around it
abbrev pub binds : List Direct → List Occurrence → List Path → Prefix → Bool
binds ds os bound p = joins ds os p.path && not (is_bound bound p.path)

-- The factored prefixes of a scope with these direct occurrences and these occurrences, where these paths are bound
-- around it: the longest common prefixes of a direct occurrence and any occurrence that are not bound yet, by the first
-- occurrence in the text that has them, then by length.
abbrev pub factored : List Direct → List Occurrence → List Path → List Prefix
factored ds os bound = added [] (filter (binds ds os bound) (flat_map (prefixes_of ds) os))

-- the paths that are bound once a scope's prefixes are, the last one newest
abbrev pub bound_within : List Prefix → List Path → List Path
bound_within [] bound = bound
bound_within (f ∷ fs) bound = bound_within fs (f.path ∷ bound)
