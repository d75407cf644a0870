pub mod Context  -- The words that say whether what stands beside a fault is shown.
pub mod Misfits  -- Which options of `smp` go together.
