use Rattle.script_drive.proofs.driving.start_workers.Goals as goal

-- want of memory is a fault of each script
pub returns-then-is_err-clause-fault : goal.returns-then-is_err-clause-fault
returns-then-is_err-clause-fault g c = ∣ tt ∣₁
