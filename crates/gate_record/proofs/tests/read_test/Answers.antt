-- `gate_record::tests::read_test` meets its contract: byte for byte as the definition reads and judges.
use Rattle.std.proofs.Common.{rules}
use Rattle.gate_record.specs.Gate.{test}
use Rattle.gate_record.proofs.tests.read_test.Goals as goal

pub returns-in_err-component : goal.returns-in_err-component
unfolding test
returns-in_err-component c = search rules

pub returns-in_err-no_component_fault : goal.returns-in_err-no_component_fault
unfolding test
returns-in_err-no_component_fault c = search rules

pub returns-in_err-mask : goal.returns-in_err-mask
unfolding test
returns-in_err-mask c = search rules

pub returns-in_err-mask_fault : goal.returns-in_err-mask_fault
unfolding test
returns-in_err-mask_fault c = search rules

pub returns : goal.returns
unfolding test
returns c = search rules
