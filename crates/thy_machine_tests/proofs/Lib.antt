mod LeastLemmas
mod LogLemmas
mod PoolLemmas
mod PoweredLemmas
mod CallLemmas
