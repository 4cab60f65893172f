-- A text that a uuid prints stands for that uuid.
use Rattle.std.proofs.Common.{◌≡◌, ℕ, zero, suc, ◌<◌, ◌^◌, cond, get_or, Some, None, refl, sym, ap, ◌∙◌, arith, inl}
use Rattle.std.specs.Int.{w128, to_be_bytes, from_be_bytes}
use Rattle.std.specs.Option.{option_map}
use Rattle.std.proofs.lemmas.Slice.Eq.{bytes_eq-Decides}
use Rattle.uuid.specs.Text.{parsed, lower}
use Rattle.uuid.proofs.OrderLemmas.{from_be_bytes-to_be_bytes_16}
use Rattle.uuid.proofs.RoundTrips.{parses_hyphenated}
use Rattle.uuid.proofs.TextLemmas.{all_fit}
use Rattle.ev_value.specs.JsonText.{id_text}
use Rattle.sql_grammar.specs.declared.class.Class.TheVariants.{Literal}
use Rattle.sql_grammar.specs.Words.{printed_id, id_at}

byte_fits : (n k : ℕ) → k < 16 → get_or (to_be_bytes w128 n) k 0 < 256
byte_fits n zero lt = omega arith
byte_fits n (suc zero) lt = omega arith
byte_fits n (suc (suc zero)) lt = omega arith
byte_fits n (suc (suc (suc zero))) lt = omega arith
byte_fits n (suc (suc (suc (suc zero)))) lt = omega arith
byte_fits n (suc (suc (suc (suc (suc zero))))) lt = omega arith
byte_fits n (suc (suc (suc (suc (suc (suc zero)))))) lt = omega arith
byte_fits n (suc (suc (suc (suc (suc (suc (suc zero))))))) lt = omega arith
byte_fits n (suc (suc (suc (suc (suc (suc (suc (suc zero)))))))) lt = omega arith
byte_fits n (suc (suc (suc (suc (suc (suc (suc (suc (suc zero))))))))) lt = omega arith
byte_fits n (suc (suc (suc (suc (suc (suc (suc (suc (suc (suc zero)))))))))) lt = omega arith
byte_fits n (suc (suc (suc (suc (suc (suc (suc (suc (suc (suc (suc zero))))))))))) lt = omega arith
byte_fits n (suc (suc (suc (suc (suc (suc (suc (suc (suc (suc (suc (suc zero)))))))))))) lt = omega arith
byte_fits n (suc (suc (suc (suc (suc (suc (suc (suc (suc (suc (suc (suc (suc zero))))))))))))) lt = omega arith
byte_fits n (suc (suc (suc (suc (suc (suc (suc (suc (suc (suc (suc (suc (suc (suc zero)))))))))))))) lt = omega arith
byte_fits n (suc (suc (suc (suc (suc (suc (suc (suc (suc (suc (suc (suc (suc (suc (suc zero))))))))))))))) lt = omega arith
byte_fits n (suc (suc (suc (suc (suc (suc (suc (suc (suc (suc (suc (suc (suc (suc (suc (suc k)))))))))))))))) lt = absurd (omega arith)

read_back : (id : ℕ) → id < 2 ^ 128 → option_map (from_be_bytes w128) (parsed (id_text id)) ≡ Some id
read_back id small =
    ap (option_map (from_be_bytes w128)) (sym (parses_hyphenated lower (to_be_bytes w128 id) (inl refl) refl (all_fit (to_be_bytes w128 id) (byte_fits id))))
    ∙ ap (λ (n : ℕ). Some n) (from_be_bytes-to_be_bytes_16 id small)

pub id_known : (id : ℕ) → id < 2 ^ 128 → id_at Literal (id_text id) ≡ Some id
id_known id small =
    ap (printed_id (id_text id)) (read_back id small) ∙ ap (λ b. cond b (Some id) None) ((bytes_eq-Decides (id_text id) (id_text id)).1 refl)
