-- What is added in several steps.
use Rattle.std.proofs.Common.{◌≡◌, [], ◌++◌, sym, ap, ◌∙◌, subst, append_assoc, append-nil, Result, OnOk}
use Rattle.sql_print.specs.Marks.{Tokens}

pub no_tokens : (all xs : Tokens) → xs ≡ [] → all ≡ all ++ xs
no_tokens all xs h = sym (ap (λ l. all ++ l) h ∙ append-nil all)

pub two : {T E : Type 0} (r : Result T E) (all one new a b xs : Tokens) → one ≡ all ++ a → OnOk r (new ≡ one ++ b) → xs ≡ a ++ b → OnOk r (new ≡ all ++ xs)
two r all one new a b xs e h x = subst (λ l. OnOk r (new ≡ l)) (ap (λ l. l ++ b) e ∙ append_assoc all a b ∙ sym (ap (λ l. all ++ l) x)) h

pub three : {T E : Type 0} (r : Result T E) (all one two_ new a b c xs : Tokens) → one ≡ all ++ a → two_ ≡ one ++ b → OnOk r (new ≡ two_ ++ c) → xs ≡ a ++ (b ++ c) → OnOk r (new ≡ all ++ xs)
three r all one two_ new a b c xs e f h x = two r all two_ new (a ++ b) c xs (f ∙ ap (λ l. l ++ b) e ∙ append_assoc all a b) h (x ∙ sym (append_assoc a b c))

pub four : {T E : Type 0} (r : Result T E) (all one two_ three_ new a b c d xs : Tokens) → one ≡ all ++ a → two_ ≡ one ++ b → three_ ≡ two_ ++ c → OnOk r (new ≡ three_ ++ d) → xs ≡ a ++ (b ++ (c ++ d)) → OnOk r (new ≡ all ++ xs)
four r all one two_ three_ new a b c d xs e f g h x = three r all two_ three_ new (a ++ b) c d xs (f ∙ ap (λ l. l ++ b) e ∙ append_assoc all a b) g h (x ∙ sym (append_assoc a b (c ++ d)))
