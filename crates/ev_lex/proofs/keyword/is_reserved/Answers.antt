use Rattle.std.proofs.Common.{sym, ap, ⊎_elim}
use Rattle.ev_lex.specs.Keyword.{is_reserved}
use Rattle.ev_lex.proofs.keyword.is_reserved.Goals as goal

pub returns-in-Asc : goal.returns-in-Asc
returns-in-Asc c = ⊎_elim (λ e. sym (ap is_reserved e)) (⊎_elim (λ e. sym (ap is_reserved e)) (⊎_elim (λ e. sym (ap is_reserved e)) (⊎_elim (λ e. sym (ap is_reserved e)) (⊎_elim (λ e. sym (ap is_reserved e)) (⊎_elim (λ e. sym (ap is_reserved e)) (⊎_elim (λ e. sym (ap is_reserved e)) (⊎_elim (λ e. sym (ap is_reserved e)) (⊎_elim (λ e. sym (ap is_reserved e)) (⊎_elim (λ e. sym (ap is_reserved e)) (⊎_elim (λ e. sym (ap is_reserved e)) (⊎_elim (λ e. sym (ap is_reserved e)) (⊎_elim (λ e. sym (ap is_reserved e)) (⊎_elim (λ e. sym (ap is_reserved e)) (⊎_elim (λ e. sym (ap is_reserved e)) (⊎_elim (λ e. sym (ap is_reserved e)) (⊎_elim (λ e. sym (ap is_reserved e)) (⊎_elim (λ e. sym (ap is_reserved e)) (⊎_elim (λ e. sym (ap is_reserved e)) (⊎_elim (λ e. sym (ap is_reserved e)) (⊎_elim (λ e. sym (ap is_reserved e)) (⊎_elim (λ e. sym (ap is_reserved e)) (⊎_elim (λ e. sym (ap is_reserved e)) (⊎_elim (λ e. sym (ap is_reserved e)) (⊎_elim (λ e. sym (ap is_reserved e)) (⊎_elim (λ e. sym (ap is_reserved e)) (⊎_elim (λ e. sym (ap is_reserved e)) (⊎_elim (λ e. sym (ap is_reserved e)) (λ e. sym (ap is_reserved e))))))))))))))))))))))))))))) c.in-Asc.is
