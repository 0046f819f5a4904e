use Rattle.std.proofs.Common.{rules, Result, Ok, Err, ◌≡◌, sym, ◌∙◌}
use Rattle.byte.specs.declared.Refusal.{Refusal}
use Rattle.state.proofs.Gates.{lent_pool, lent_list, lent_shut, lent_tokens, lent_bytes, lent_open}
use Rattle.layout.proofs.Lent.{alone_session}
use Rattle.layout.proofs.gate_in.Goals.{then-pool-gt65536-via-then-pool-gt65536, then-pool-gt65536-via-else-pool-gt65536+then-list-gt65537}
use Rattle.layout.proofs.gate_in.Goals.{then-list-tokens-via-then-list-tokens, then-list-tokens-via-else-list-tokens+then-pool-bytes}
use Rattle.layout.proofs.gate_in.Goals as goal

pub returns-then-pool-gt65536 : goal.returns-then-pool-gt65536
returns-then-pool-gt65536 c =
    elim c.then-pool-gt65536.branch [
      | then-pool-gt65536-via-then-pool-gt65536 w ↦ lent_pool _ _ _ _ w.if-pool-gt65536.true
      | then-pool-gt65536-via-else-pool-gt65536+then-list-gt65537 w ↦ lent_list _ _ _ _ w.if-pool-gt65536.false w.if-list-gt65537.true
    ]

clash : {refusal : Refusal} → ◌≡◌ {A = Result (Unit {0}) Refusal} (Err refusal) (Ok tt) → ⊥
clash z = cc

pub returns-in_err-gate_over : goal.returns-in_err-gate_over
returns-in_err-gate_over c =
    let e = alone_session c.args.src.now c.args.numbers.now _ _ _ c.span_in.ensures c.depth_in-depth.ensures
    c.gate_over.ensures in
    let shut = lent_shut _ _ _ _ c.if-pool-gt65536.false c.if-list-gt65537.false _ e (λ z. clash (sym c.in_err-gate_over.was ∙ z)) in
    search (shut, rules)

pub returns-then-list-tokens : goal.returns-then-list-tokens
returns-then-list-tokens c =
    let e = alone_session c.args.src.now c.args.numbers.now _ _ _ c.span_in.ensures c.depth_in-depth.ensures
    c.gate_over.ensures in
    elim c.then-list-tokens.branch [
      | then-list-tokens-via-then-list-tokens w ↦
          lent_tokens _ _ _ _ c.if-pool-gt65536.false c.if-list-gt65537.false _ e c.in_ok-gate_over.was w.if-list-tokens.true
      | then-list-tokens-via-else-list-tokens+then-pool-bytes w ↦
          lent_bytes _ _ _ _ c.if-pool-gt65536.false c.if-list-gt65537.false _ e c.in_ok-gate_over.was w.if-list-tokens.false w.if-pool-bytes.true
    ]

pub returns : goal.returns
returns c =
    let e = alone_session c.args.src.now c.args.numbers.now _ _ _ c.span_in.ensures c.depth_in-depth.ensures
    c.gate_over.ensures in
    lent_open _ _ _ _ c.if-pool-gt65536.false c.if-list-gt65537.false _ e c.in_ok-gate_over.was c.if-list-tokens.false c.if-pool-bytes.false
