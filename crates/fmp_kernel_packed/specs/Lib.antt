pub mod Kept  -- What kernels are made of, each part once.
pub mod Packed  -- The numbers of a kernel's parts.
pub mod Shaped  -- Kernels of one configuration.
pub mod Kernels  -- Kernels of one configuration by their numbers.
pub mod Told  -- The numbers that tell a kernel.
