use Rattle.std.proofs.lemmas.Result.{err_from_is_err_and}
use Rattle.mp_guard.proofs.CheckLemmas.{numbers_fail, rates_fail, greens_fail, masses_fail, balances_fail, rules_tried, has_rates, has_greens}
use Rattle.mp_guard.proofs.checking.try_rules.Goals as goal

pub returns-in_err-check_numbers : goal.returns-in_err-check_numbers
returns-in_err-check_numbers c =
    let p = err_from_is_err_and c.from_residual.result c.from_residual.ensures.1 in
    rw (p.1, p.2) (numbers_fail c.args.net.now c.args.guard.now c.in_err-check_numbers.field-0.0 c.in_err-check_numbers.ensures)

pub returns-in_err-check_rates : goal.returns-in_err-check_rates
returns-in_err-check_rates c =
    let p = err_from_is_err_and c.from_residual-in_err-check_rates.result c.from_residual-in_err-check_rates.ensures.1 in
    rw (p.1, p.2) (rates_fail c.args.net.now c.args.guard.now c.in_err-check_rates.field-0.0 c.in_ok-check_numbers.ensures c.in_err-check_rates.ensures)

pub returns-in_err-check_greens : goal.returns-in_err-check_greens
returns-in_err-check_greens c =
    let p = err_from_is_err_and c.from_residual-in_err-check_greens.result c.from_residual-in_err-check_greens.ensures.1 in
    rw (p.1, p.2) (greens_fail c.args.net.now c.args.guard.now c.in_err-check_greens.field-0.0 c.in_ok-check_numbers.ensures c.in_ok-check_rates.ensures c.in_err-check_greens.ensures)

pub check_masses-requires-clause-greens : goal.check_masses-requires-clause-greens
check_masses-requires-clause-greens c = has_greens c.args.net.now c.args.guard.now c.requires.lengths c.in_ok-check_greens.ensures

pub returns-in_err-check_masses : goal.returns-in_err-check_masses
returns-in_err-check_masses c =
    let p = err_from_is_err_and c.from_residual-in_err-check_masses.result c.from_residual-in_err-check_masses.ensures.1 in
    rw (p.1, p.2) (masses_fail c.args.net.now c.args.guard.now c.in_err-check_masses.field-0.0 c.in_ok-check_numbers.ensures c.in_ok-check_rates.ensures c.in_ok-check_greens.ensures c.in_err-check_masses.ensures)

pub check_balances-requires-clause-rates : goal.check_balances-requires-clause-rates
check_balances-requires-clause-rates c = has_rates c.args.net.now c.args.guard.now c.in_ok-check_rates.ensures

pub returns-in_err-check_balances : goal.returns-in_err-check_balances
returns-in_err-check_balances c =
    let p = err_from_is_err_and c.from_residual-in_err-check_balances.result c.from_residual-in_err-check_balances.ensures.1 in
    rw (p.1, p.2) (balances_fail c.args.net.now c.args.guard.now c.in_err-check_balances.field-0.0 c.in_ok-check_numbers.ensures c.in_ok-check_rates.ensures c.in_ok-check_greens.ensures c.in_ok-check_masses.ensures c.in_err-check_balances.ensures)

pub check_serves-requires-clause-rates : goal.check_serves-requires-clause-rates
check_serves-requires-clause-rates c = has_rates c.args.net.now c.args.guard.now c.in_ok-check_rates.ensures

pub check_serves-requires-clause-greens : goal.check_serves-requires-clause-greens
check_serves-requires-clause-greens c = has_greens c.args.net.now c.args.guard.now c.requires.lengths c.in_ok-check_greens.ensures

pub returns : goal.returns
returns c = rules_tried c.args.net.now c.args.guard.now c.check_serves.result c.in_ok-check_numbers.ensures c.in_ok-check_rates.ensures c.in_ok-check_greens.ensures c.in_ok-check_masses.ensures c.in_ok-check_balances.ensures c.check_serves.ensures
